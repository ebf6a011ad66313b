use Rattle.slots.specs.Promise.{IsSeatOf}
use Rattle.table_tests.proofs.threads.hammer.Given as goal

abbrev pub invariant-loop-i : goal.invariant-loop-i
invariant-loop-i l = IsSeatOf l.slots l.seat
