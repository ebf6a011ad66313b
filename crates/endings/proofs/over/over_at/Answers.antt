use Rattle.std.proofs.Common.{rules, ◌∙◌, sym}
use Rattle.std.proofs.lemmas.Bool.{false≢true}
use Rattle.refusals.specs.Outcome.{IsSoundText}
use Rattle.endings.proofs.over.over_at.Goals as goal

pub returns-else-has_lawful_move : goal.returns-else-has_lawful_move
returns-else-has_lawful_move c =
    let sound : IsSoundText c.args.fen.now c.in-Ok.position = search rules in
    (c.in-Ok.position, sound, λ m lawful. false≢true (sym c.if-has_lawful_move.false ∙ c.has_lawful_move.ensures.1 (m, rw c.of.ensures lawful)))
