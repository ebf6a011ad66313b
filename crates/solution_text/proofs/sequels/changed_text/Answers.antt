use Rattle.std.proofs.Common.{inl, inr, sym, ◌∙◌, string_bytes}
use Rattle.std.proofs.lemmas.Bool.{false≢true}
use Rattle.decision.proofs.Options.{some_at}
use Rattle.solution_text.proofs.Beside.{not_asked, met_there}
use Rattle.solution_text.proofs.sequels.changed_text.Goals as goal

pub returns-in_default-clause-changed : goal.returns-in_default-clause-changed
returns-in_default-clause-changed g c =
    let t = c.args.teller.now in
    not_asked t.notation t.set c.args.reply c.args.board.now c.args.moves.now (string_bytes c.new.result) c.in_default.not-Some c.new.ensures.bytes

pub returns-then-not-is_changed-clause-changed : goal.returns-then-not-is_changed-clause-changed
returns-then-not-is_changed-clause-changed g c =
    let t = c.args.teller.now in
    let set = c.in-Some-found.set in
    let is = some_at c.in-Some-set_move_of.found set _ _ c.in-Some-found.is c.in-Some-set_move_of.ensures.found in
    met_there t.notation t.set c.args.reply c.args.board.now c.args.moves.now (string_bytes c.new-then-not-is_changed.result) c.in-Some.posed c.in-Some.is set.board set.first is
    (inr ((λ changed. false≢true (sym c.if-not-is_changed.true ∙ c.is_changed.ensures.1 changed)), c.new-then-not-is_changed.ensures.bytes))

pub returns-clause-changed : goal.returns-clause-changed
returns-clause-changed g c =
    let t = c.args.teller.now in
    let set = c.in-Some-found.set in
    let is = some_at c.in-Some-set_move_of.found set _ _ c.in-Some-found.is c.in-Some-set_move_of.ensures.found in
    met_there t.notation t.set c.args.reply c.args.board.now c.args.moves.now (string_bytes c.in_ok-format.field-0) c.in-Some.posed c.in-Some.is set.board set.first is
    (inl (c.is_changed.ensures.0 c.if-not-is_changed.false, (c.name-name.result, c.name-name.ensures, c.in_ok-format.ensures.ok)))
