use Rattle.std.proofs.Common.{refl, sym, subst, arith}
use Rattle.rules.specs.Moves.{IsLawful}
use Rattle.problems.proofs.Tried.{cut_after, ends_by, beq_same}
use Rattle.decision.proofs.Callers.{goes_more}
use Rattle.decision.proofs.Replies.{known_is_right, answer_as}
use Rattle.decision.proofs.Below.{ends_it}
use Rattle.decision.proofs.searching.known_below.Goals as goal

pub after-requires : goal.after-requires
after-requires g c = subst (IsLawful c.args.q.now.position) (sym c.m-item.is) (c.requires.lawful c.loop-m.m-index c.m-item.result c.loop-m-test.true)

pub returns-in-Some-clause-goes_on : goal.returns-in-Some-clause-goes_on
returns-in-Some-clause-goes_on g c = goes_more c.loop-m.invariant c.look_far-known.ensures.goes_on

pub returns-in-Some-clause-answer : goal.returns-in-Some-clause-answer
returns-in-Some-clause-answer g c =
    let plies = c.requires.plies.0 in
    let answer = answer_as c.after.result c.after.result c.image-below.result _ c.in-Some.yes refl c.image-below.ensures (known_is_right c.image-below.result c.look_far-known.result c.look_far-known.ensures.right _ c.in-Some.yes c.in-Some.ensures) in
    ends_it c.args.q.now c.args.n c.is_own_turn-own.result c.is_own_turn-own.ensures (omega arith)
    (cut_after c.args.q.now _ c.is_own_turn-own.result c.m-item.result c.after.result c.after.ensures (ends_by c.is_own_turn-own.result c.in-Some.yes _ answer (beq_same _ _ c.if-yes-own.true)))

pub loop-m-preserved : goal.loop-m-preserved
loop-m-preserved g c = goes_more c.loop-m.invariant c.look_far-known.ensures.goes_on
