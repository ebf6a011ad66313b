use Rattle.std.proofs.Common.{arith, All}
use Rattle.slots.specs.Promise.{IsSeatOf}
use Rattle.batches.specs.BatchRun.{IsAhead, IsLane}
use Rattle.searcher.proofs.Lists.{All-popped, All-snoc}
use Rattle.batches.proofs.ahead.close_lanes.Goals as goal

pub loop-lane-preserved : goal.loop-lane-preserved
loop-lane-preserved c = record {
  count = omega (arith, c.loop-lane.invariant.count, c.push_reserved.ensures.len, c.in-Some.ensures.len);
  room = omega (arith, c.loop-lane.invariant.room, c.push_reserved.ensures.len, c.push_reserved.ensures.capacity, c.in-Some.ensures.len);
  rows = omega (arith, c.loop-lane.invariant.rows, c.push_reserved-in-Some.ensures.len, c.push_reserved-in-Some.ensures.capacity, c.in-Some.ensures.len);
  seats = λ batch table all seated.
      let i = c.loop-lane.invariant.seats batch table all seated in
      let lanes = All-popped (IsLane batch table) _ _ _ c.in-Some.ensures.items i.0 in
      (lanes.0, All-snoc (IsSeatOf table) _ _ _ c.push_reserved.ensures.items i.1 lanes.1.0);
  ahead = λ batch table all right.
      let i = c.loop-lane.invariant.ahead batch table all right in
      let lanes = All-popped (IsLane batch table) _ _ _ c.in-Some.ensures.items i.0 in
      (lanes.0, All-snoc (λ row. All (IsAhead batch) row.items) _ _ _ c.push_reserved-in-Some.ensures.items i.1 lanes.1.1);
}
