use Rattle.std.proofs.Common.{◌∙◌, rules, arith, refl, All, ap}
use Rattle.std.proofs.lemmas.List.Elements.{All-set}
use Rattle.batch_texts.specs.Said.{said_in}
use Rattle.batches.specs.BatchRun.{IsAhead}
use Rattle.batches.proofs.BatchLemmas.{ahead_next}
use Rattle.searcher.proofs.Lists.{All-item}
use Rattle.batches.proofs.ahead.take_ahead.Goals as goal

pub returns-in-Some-clause-kept : goal.returns-in-Some-clause-kept
returns-in-Some-clause-kept c = λ batch all.
    let rows = c.loop-lane.invariant.right batch all in
    let row = All-item (λ r. All (IsAhead batch) r.items) c.loop-lane.ahead.items c.loop-lane.ahead.items c.loop-lane.lane c.index_mut-replies.result.now refl
    (omega (arith, c.loop-lane.invariant.count, c.loop-lane-test.true, c.len-lane-end.ensures)) c.index_mut-replies.ensures.value rows in
    All-set (λ r. All (IsAhead batch) r.items) c.loop-lane.ahead.items c.loop-lane.lane _ (c.take_if_next.ensures.kept batch row) rows

pub returns-in-Some-clause-text : goal.returns-in-Some-clause-text
returns-in-Some-clause-text c = λ batch all.
    let rows = c.loop-lane.invariant.right batch all in
    let row = All-item (λ r. All (IsAhead batch) r.items) c.loop-lane.ahead.items c.loop-lane.ahead.items c.loop-lane.lane c.index_mut-replies.result.now refl
    (omega (arith, c.loop-lane.invariant.count, c.loop-lane-test.true, c.len-lane-end.ensures)) c.index_mut-replies.ensures.value rows in
    rw c.in-Line.is (ahead_next batch c.in-Line.line c.in-Some.reply.said.items c.in-Some.reply.text
    (c.in-Some.ensures.taken.0 ∙ c.said_in-said.ensures ∙ ap said_in c.as_slice.ensures.value) (c.in-Some.ensures.taken.1 batch row))

pub loop-lane-preserved : goal.loop-lane-preserved
loop-lane-preserved c = record {
  count = search rules;
  right = λ batch all.
      let rows = c.loop-lane.invariant.right batch all in
      let row = All-item (λ r. All (IsAhead batch) r.items) c.loop-lane.ahead.items c.loop-lane.ahead.items c.loop-lane.lane c.index_mut-replies.result.now refl
      (omega (arith, c.loop-lane.invariant.count, c.loop-lane-test.true, c.len-lane-end.ensures)) c.index_mut-replies.ensures.value rows in
      All-set (λ r. All (IsAhead batch) r.items) c.loop-lane.ahead.items c.loop-lane.lane _ (c.take_if_next.ensures.kept batch row) rows;
}
