use Rattle.std.proofs.Common.{◌-◌, All, sym, subst}
use Rattle.std.proofs.lemmas.List.{take_all}
use Rattle.decision.specs.Callers.{IsAskedAfter}
use Rattle.problems.proofs.Tried.{passed_after, cut_after, goes_by, ends_by, beq_same, beq_apart, All-listed}
use Rattle.decision.proofs.Callers.{led_more}
use Rattle.decision.proofs.Below.{ends_it, none_ends, rests, rests_not, asked_later, asked_next}
use Rattle.decision.proofs.first.try_moves.Goals as goal

pub after-requires : goal.after-requires
after-requires g c = (c.requires.lists c.m-item.result).0 (c.loop-m.m-index, c.loop-m-test.true, sym c.m-item.is)

pub returns-in_err-yes-clause-goes_on : goal.returns-in_err-yes-clause-goes_on
returns-in_err-yes-clause-goes_on g c = led_more g.met.S.Stop.stays_on c.loop-m.invariant.goes_on c.visit_child.ensures.goes_on

pub returns-then-yes-own-clause-goes_on : goal.returns-then-yes-own-clause-goes_on
returns-then-yes-own-clause-goes_on g c = led_more g.met.S.Stop.stays_on c.loop-m.invariant.goes_on c.visit_child.ensures.goes_on

pub returns-then-yes-own-clause-answer : goal.returns-then-yes-own-clause-answer
returns-then-yes-own-clause-answer g c =
    ends_it c.args.q.now c.args.n c.is_own_turn-own.result c.is_own_turn-own.ensures c.requires.plies.0
    (cut_after c.args.q.now (c.args.n - 1) c.is_own_turn-own.result c.m-item.result c.after.result c.after.ensures (ends_by c.is_own_turn-own.result c.in_ok-yes.yes _ c.in_ok-yes.ensures.answer (beq_same _ _ c.if-yes-own.true)))

pub returns-then-yes-own-clause-below : goal.returns-then-yes-own-clause-below
returns-then-yes-own-clause-below g c = record {
  some = λ _. (
    c.m-item.result,
    c.after.ensures.0,
    c.after.ensures.1,
    asked_later c.loop-m.invariant.goes_on.caller c.visit_child.ensures.goes_on.caller c.args.q.now c.m-item.result c.after.result c.after.ensures c.visit_child.ensures.asked,
  );
  every = λ no_one. absurd (no_one (rests c.args.q.now c.is_own_turn-own.result c.is_own_turn-own.ensures));
}

pub loop-m-preserved : goal.loop-m-preserved
loop-m-preserved g c = record {
  goes_on = led_more g.met.S.Stop.stays_on c.loop-m.invariant.goes_on c.visit_child.ensures.goes_on;
  passed = passed_after c.args.q.now (c.args.n - 1) c.is_own_turn-own.result c.args.moves.now c.loop-m.m-index c.m-item.result c.after.result c.loop-m-test.true c.m-item.is c.after.ensures c.loop-m.invariant.passed
      (goes_by c.is_own_turn-own.result c.in_ok-yes.yes _ c.in_ok-yes.ensures.answer (beq_apart _ _ c.if-yes-own.false));
  asked = asked_next c.loop-m.invariant.goes_on.caller c.visit_child.ensures.goes_on.caller c.args.q.now c.m-item.result c.after.result c.after.ensures c.visit_child.ensures.asked c.args.moves.now c.loop-m.m-index
      c.loop-m-test.true c.m-item.is c.loop-m.invariant.asked;
}

pub returns-clause-answer : goal.returns-clause-answer
returns-clause-answer g c =
    none_ends c.args.q.now c.args.n c.is_own_turn-own.result c.is_own_turn-own.ensures c.requires.plies.0 c.args.moves.now c.requires.lists c.requires.some c.loop-m.m-index c.loop-m-test.false c.loop-m.invariant.passed

pub returns-clause-below : goal.returns-clause-below
returns-clause-below g c =
    let IsSo = IsAskedAfter c.args.q.now c.args.caller.now c.loop-m.caller in
    record {
      some = λ r. absurd (rests_not c.args.q.now c.is_own_turn-own.result c.is_own_turn-own.ensures r);
      every = λ _ m b move. All-listed c.args.q.now.position c.args.moves.now c.requires.lists IsSo (subst (All IsSo) (take_all c.loop-m.m-index c.args.moves.now c.loop-m-test.false) c.loop-m.invariant.asked) m (b, move) b move;
    }
