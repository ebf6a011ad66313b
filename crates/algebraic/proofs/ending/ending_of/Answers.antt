use Rattle.std.proofs.Common.{sym, ◌∙◌}
use Rattle.std.proofs.lemmas.Bool.{false≢true}
use Rattle.algebraic.proofs.ending.ending_of.Goals as goal

pub returns-then-checked : goal.returns-then-checked
returns-then-checked c =
    let some = c.has_lawful_move.ensures.0 c.if-has_lawful_move.true in
    (c.mover_in_check-checked.ensures.0 c.if-checked.true, λ mated. mated.no_move some.0 some.1)

pub returns-else-checked : goal.returns-else-checked
returns-else-checked c =
    let some = c.has_lawful_move.ensures.0 c.if-has_lawful_move.true in
    (λ check. false≢true (sym c.if-checked.false ∙ c.mover_in_check-checked.ensures.1 check), λ _ stale. stale.no_move some.0 some.1)
