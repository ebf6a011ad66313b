use Rattle.std.proofs.Common.{inl, inr, refl, arith}
use Rattle.std.proofs.Math.Nat.{min-eq_left}
use Rattle.std.proofs.lemmas.Grind.{common_steps}
use Rattle.searcher.proofs.Limits.{limit_within}
use Rattle.replies.proofs.FirstLemmas.{named_missed, named_shown}
use Rattle.replies.proofs.first.first_shown.Goals as goal

-- a limit that isn't refused is the root's
pub opened_text-requires-clause-limit : goal.opened_text-requires-clause-limit
opened_text-requires-clause-limit g c = λ none.
    let limits = c.args.limits in
    let most = limit_within limits.limit limits.workers limits.slots none in
    let byte = min-eq_left {n = limits.limit} {m = 255} (omega (arith, most.1)) in
    let same = min-eq_left {n = limits.limit} {m = 63} most.1 in
    grind (arith, common_steps)

pub returns-in-Some-clause-shown : goal.returns-in-Some-clause-shown
returns-in-Some-clause-shown g c =
    let found = c.in-Some.ensures in
    named_shown c.args.name.now c.args.limits c.args.root.now c.in-Some.job c.opened_text.result found.0 found.1 c.opened_text.ensures.shown

pub returns-in-Some-clause-silent : goal.returns-in-Some-clause-silent
returns-in-Some-clause-silent g c =
    let found = c.in-Some.ensures in
    elim c.opened_text.ensures.silent [
      | inl misses ↦ inl (named_missed c.args.name.now c.args.limits.limit c.args.root.now c.in-Some.job found.0 found.1 misses)
      | inr same ↦ inr same
    ]

pub returns-in-None-clause-shown : goal.returns-in-None-clause-shown
returns-in-None-clause-shown g c = inr (inr (c.in-None.ensures, refl))
