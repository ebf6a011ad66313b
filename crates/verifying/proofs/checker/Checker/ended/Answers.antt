use Rattle.std.proofs.Common.{arith, ap, length}
use Rattle.verifying.proofs.Common.{common_steps}
use Rattle.verifying.proofs.Refused.{end_proved, end_wrong}
use Rattle.verifying.proofs.checker.Checker.ended.Goals as goal

pub returns-then-not-is_empty-clause-refuses : goal.returns-then-not-is_empty-clause-refuses
returns-then-not-is_empty-clause-refuses g c = λ memory none.
    end_wrong c.args.self.now c.args.rest.now c.fault.result c.fault.ensures (λ empty. absurd (grind (arith, common_steps, ap length empty))) none

pub returns-in-None-clause-refuses : goal.returns-in-None-clause-refuses
returns-in-None-clause-refuses g c = λ memory none.
    end_wrong c.args.self.now c.args.rest.now c.fault-in-None.result c.fault-in-None.ensures (λ empty. c.in-None.ensures) none

pub returns-in-Some-clause-proves : goal.returns-in-Some-clause-proves
returns-in-Some-clause-proves g c = end_proved c.args.self.now c.in-Some.answer c.in-Some.ensures
