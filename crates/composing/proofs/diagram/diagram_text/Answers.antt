use Rattle.std.proofs.Common.{All, subst, sym, string_bytes}
use Rattle.rules.specs.Moves.{IsLawful}
use Rattle.solution_text.proofs.BestLine.{continuations_lawful, some_plies}
use Rattle.composing.proofs.DiagramLemmas.{is_diagram}
use Rattle.composing.proofs.diagram.diagram_text.Goals as goal

pub continuations_of-requires-clause-plies : goal.continuations_of-requires-clause-plies
continuations_of-requires-clause-plies g c = (some_plies c.args.root.now.goal c.args.root.now.board c.args.root.now.limit c.requires.fewest, c.args.root.now.limited)

pub drawn-requires : goal.drawn-requires
drawn-requires g c =
    let r = c.args.root.now in
    subst (All (IsLawful r.board)) (sym c.as_slice.ensures.value) (continuations_lawful r.goal r.board r.limit c.in_ok-keys.keys.items c.in_ok-keys.ensures.moves)

pub returns-in-Ok-clause-text : goal.returns-in-Ok-clause-text
returns-in-Ok-clause-text g c =
    let r = c.args.root.now in
    is_diagram c.args.notation r.goal r.board r.limit c.in_ok-keys.keys.items c.as_slice.result.now (string_bytes c.in-Ok.text) c.requires.goal c.requires.fewest
    c.in_ok-keys.ensures.moves c.as_slice.ensures.value c.in-Ok.ensures
