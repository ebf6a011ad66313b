use Rattle.std.proofs.Common.{◌≡◌, All, [], ap, arith, length, rules, subst, sym}
use Rattle.std.proofs.lemmas.List.Elements.{All-nil, All-same}
use Rattle.slots.specs.Promise.{IsSeatOf}
use Rattle.decision.proofs.Zips.{take_whole}
use Rattle.batches.specs.BatchRun.{IsAhead, IsLane}
use Rattle.batches.proofs.ahead.replies_ahead.Goals as goal

pub for_each_mut-requires-clause-accepts : goal.for_each_mut-requires-clause-accepts
for_each_mut-requires-clause-accepts g c κs within i p lt at =
    let lane = IsLane c.args.batch.now c.args.table.now.slots in
    let opened = c.in_ok-lanes.ensures.lanes c.args.batch.now c.args.table.now.slots c.args.table.now.seated.2 in
    (c.requires, subst lane (sym at) (subst (All lane) (sym c.as_mut_slice.ensures.value) opened i p.now lt))

pub invariant_of-table-2 : goal.invariant_of-table-2
invariant_of-table-2 g c =
    let table = c.args.table.now.slots in
    let same : length c.for_each_mut.new.s ≡ length c.in_ok-lanes.lanes.items = search rules in
    let whole = take_whole c.in_ok-lanes.lanes.len c.for_each_mut.new.s _ (search rules) in
    let lane = IsLane c.args.batch.now table in
    let worked = subst (All lane) (sym whole) (λ k d lt.
    let change = (c.for_each_mut.ensures k d (search rules)).1 in
    subst lane change.left change.call) in
    let seats = c.close_lanes.ensures.seats c.args.batch.now table worked (All-same (IsSeatOf table) _ [] c.in_ok-lanes.ensures.count.0 (All-nil (IsSeatOf table))) in
    record {
      seated = (
        omega (arith, c.close_lanes.ensures.count, ap length whole, same, c.in_ok-lanes.ensures.count.1, c.args.table.now.seated.0),
        omega (arith, c.close_lanes.ensures.count, ap length whole, same, ap length c.in_ok-lanes.ensures.count.0, c.in_ok-lanes.ensures.count.1, c.args.table.now.seated.1),
        seats,
      );
    }

pub returns : goal.returns
returns g c =
    let table = c.args.table.now.slots in
    let whole = take_whole c.in_ok-lanes.lanes.len c.for_each_mut.new.s _ (search rules) in
    let lane = IsLane c.args.batch.now table in
    let worked = subst (All lane) (sym whole) (λ k d lt.
    let change = (c.for_each_mut.ensures k d (search rules)).1 in
    subst lane change.left change.call) in
    c.close_lanes.ensures.ahead c.args.batch.now table worked (All-same (λ row. All (IsAhead c.args.batch.now) row.items) _ [] c.in_ok-ahead.ensures.items (All-nil _))
