use Rattle.std.proofs.Common.{◌∙◌, arith, []}
use Rattle.std.proofs.lemmas.List.Elements.{All-nil, All-same}
use Rattle.slots.specs.Promise.{IsSeatOf}
use Rattle.batches.specs.BatchRun.{IsAhead, IsLane}
use Rattle.searcher.proofs.Lists.{All-popped, All-snoc}
use Rattle.batches.proofs.ahead.open_lanes.Goals as goal

pub loop-seat-preserved : goal.loop-seat-preserved
loop-seat-preserved c = record {
  count = omega (arith, c.loop-seat.invariant.count, c.push_reserved.ensures.len, c.in-Some.ensures.len);
  capacity = c.in-Some.ensures.capacity ∙ c.loop-seat.invariant.capacity;
  room = omega (arith, c.loop-seat.invariant.room, c.push_reserved.ensures.len, c.push_reserved.ensures.capacity, c.in-Some.ensures.len);
  lanes = λ batch table all.
      let i = c.loop-seat.invariant.lanes batch table all in
      let seats = All-popped (IsSeatOf table) _ _ _ c.in-Some.ensures.items i.0 in
      (seats.0, All-snoc (IsLane batch table) _ _ _ c.push_reserved.ensures.items i.1 (seats.1, All-same (IsAhead batch) _ [] c.new.ensures.items (All-nil (IsAhead batch))));
}

pub returns-clause-lanes : goal.returns-clause-lanes
returns-clause-lanes c = λ batch table all. (c.loop-seat.invariant.lanes batch table all).1
