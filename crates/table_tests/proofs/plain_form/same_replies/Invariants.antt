use Rattle.std.specs.Prelude.{◌≡◌}
use Rattle.slots.specs.Promise.{IsSeatOf}
use Rattle.table_tests.proofs.plain_form.same_replies.Given as goal

abbrev pub invariant-loop-i : goal.invariant-loop-i
invariant-loop-i g l = (l.plain_seat.table ≡ l.plain.table) × IsSeatOf l.free l.free_seat
