use Rattle.std.proofs.Common.{ℕ, ◌+◌, ◌∷◌, refl, ap, arith}
use Rattle.verifying.proofs.Common.{TooLong}
use Rattle.verifying.proofs.Refused.{line_long, line_taken, line_wrong}
use Rattle.verifying.proofs.checker.Checker.take.Goals as goal

pub returns-then-line-gt-MOST_LINE-clause-refuses : goal.returns-then-line-gt-MOST_LINE-clause-refuses
returns-then-line-gt-MOST_LINE-clause-refuses g c = λ memory none rest. line_long c.args.self.now c.args.line.now (10 ∷ rest) TooLong refl (omega arith) none

pub returns-in_default-clause-refuses : goal.returns-in_default-clause-refuses
returns-in_default-clause-refuses g c = λ memory none rest.
    line_wrong c.args.self.now c.args.line.now rest c.part_behind.new.self.claims c.fault-fault.result c.fault-fault.ensures (rw c.in_default.is at c.in_ok-part.ensures.reads) none

pub returns-clause-takes : goal.returns-clause-takes
returns-clause-takes g c =
    line_taken c.args.self.now _ c.args.line.now c.part_behind.ensures.about.0 c.part_behind.ensures.about.1 (ap (λ (n : ℕ). n + 1) c.part_behind.ensures.counts) (rw c.in-Some.is at c.in_ok-part.ensures.reads)
