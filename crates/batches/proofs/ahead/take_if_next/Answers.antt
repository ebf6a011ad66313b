use Rattle.std.proofs.Common.{◌≡◌, rules}
use Rattle.batches.specs.BatchRun.{IsAhead}
use Rattle.searcher.proofs.Lists.{All-popped, All-snoc}
use Rattle.batches.proofs.ahead.take_if_next.Goals as goal

pub returns-then-eq-clause-taken : goal.returns-then-eq-clause-taken
returns-then-eq-clause-taken c =
    let same : c.in_ok-reply.reply.said.items ≡ c.args.said.now = search rules in
    (same, λ batch all. (All-popped (IsAhead batch) _ _ _ c.in_ok-reply.ensures.items all).1)

pub returns-clause-kept : goal.returns-clause-kept
returns-clause-kept c = λ batch all.
    let popped = All-popped (IsAhead batch) _ _ _ c.in_ok-reply.ensures.items all in
    All-snoc (IsAhead batch) _ _ _ c.push_reserved.ensures.items popped.0 popped.1
