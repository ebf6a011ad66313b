-- each seat stands in a lane still, or went back
use Rattle.std.proofs.Common.{◌≡◌, ◌+◌, ◌≤◌, All, length, vec_capacity}
use Rattle.atomic_table.specs.Seated.{TableId}
use Rattle.slots.specs.Promise.{IsSeatOf}
use Rattle.batch_texts.specs.declared.asked.Batch.{Batch}
use Rattle.batches.specs.BatchRun.{AreAhead, IsLane}
use Rattle.batches.proofs.ahead.close_lanes.Given as goal

abbrev pub invariant-loop-lane : goal.invariant-loop-lane
invariant-loop-lane l = record {
  count : length l.seats.items + length l.lanes.items ≡ length l.fn.seats.items + length l.fn.lanes.items;
  room : length l.seats.items + length l.lanes.items ≤ vec_capacity l.seats;
  rows : length l.ahead.items + length l.lanes.items ≤ vec_capacity l.ahead;
  seats : (batch : Batch) (table : TableId) → All (IsLane batch table) l.fn.lanes.items → All (IsSeatOf table) l.fn.seats.items
      → All (IsLane batch table) l.lanes.items × All (IsSeatOf table) l.seats.items;
  ahead : (batch : Batch) (table : TableId) → All (IsLane batch table) l.fn.lanes.items → AreAhead batch l.fn.ahead.items
      → All (IsLane batch table) l.lanes.items × AreAhead batch l.ahead.items;
}

abbrev pub decreases-loop-lane : goal.decreases-loop-lane
decreases-loop-lane l = length l.lanes.items
