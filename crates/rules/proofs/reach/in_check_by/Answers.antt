use Rattle.std.proofs.Common.{sym, ◌∙◌}
use Rattle.rules.proofs.Common.{false≢true, IsCheckAt}
use Rattle.rules.proofs.Listed.{none_more}
use Rattle.rules.proofs.reach.in_check_by.Goals as goal

pub loop-number-preserved : goal.loop-number-preserved
loop-number-preserved c =
    none_more _ (IsCheckAt c.args.position.now c.args.side) c.loop-number.number c.of_number.result c.of_number.ensures.on_board c.of_number.ensures.number c.loop-number.invariant
    (λ h. false≢true (sym c.if-is_check_at.false ∙ c.is_check_at.ensures.1 h))
