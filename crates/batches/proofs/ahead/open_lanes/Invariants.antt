-- each seat is left, or stands in a lane
use Rattle.std.proofs.Common.{◌≡◌, ◌+◌, ◌≤◌, All, length, vec_capacity}
use Rattle.atomic_table.specs.Seated.{TableId}
use Rattle.slots.specs.Promise.{IsSeatOf}
use Rattle.batch_texts.specs.declared.asked.Batch.{Batch}
use Rattle.batches.specs.BatchRun.{IsLane}
use Rattle.batches.proofs.ahead.open_lanes.Given as goal

abbrev pub invariant-loop-seat : goal.invariant-loop-seat
invariant-loop-seat l = record {
  count : length l.lanes.items + length l.seats.items ≡ length l.fn.seats.items;
  capacity : vec_capacity l.seats ≡ vec_capacity l.fn.seats;
  room : length l.lanes.items + length l.seats.items ≤ vec_capacity l.lanes;
  lanes : (batch : Batch) (table : TableId) → All (IsSeatOf table) l.fn.seats.items → All (IsSeatOf table) l.seats.items × All (IsLane batch table) l.lanes.items;
}

abbrev pub decreases-loop-seat : goal.decreases-loop-seat
decreases-loop-seat l = length l.seats.items
