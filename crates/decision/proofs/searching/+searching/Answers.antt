use Rattle.std.proofs.Common.{refl, ◌-◌, ◌<◌, ◌≡◌, ◌↔◌, IsTrue, List, length, sym, ◌∙◌, subst, arith}
use Rattle.rules.specs.Squares.{Ply}
use Rattle.problems.specs.Questions.{IsForced}
use Rattle.problems.specs.Tried.{ListsAll}
use Rattle.problems.proofs.Tried.{none_listed, all_listed, now_for, passed_after, cut_after, goes_by, ends_by, beq_same, beq_apart}
use Rattle.decision.proofs.Callers.{led_more, led_then, then_led, led_still, led_by}
use Rattle.decision.proofs.Replies.{known_is_right, answer_as, forced_later}
use Rattle.decision.proofs.Below.{ends_it, none_ends}
use Rattle.decision.proofs.searching.+searching.Goals as goal
use Rattle.decision.proofs.searching.+searching.Goals.{search_in_rounds-then-yes-via-then-yes, search_in_rounds-then-yes-via-else-yes+then-plies-n}

pub search-returns-then-count-eq0-clause-answer : goal.search-returns-then-count-eq0-clause-answer
search-returns-then-count-eq0-clause-answer g t c =
    now_for c.args.q.now c.args.n c.answer_now.result
    (none_listed c.args.q.now.position c.order.new.self.moves.items c.order.ensures (omega (arith, c.if-count-eq0.true, c.len-count.ensures.value)))
    c.answer_now.ensures

pub search-returns-then-n-le-LEAF-clause-goes_on : goal.search-returns-then-n-le-LEAF-clause-goes_on
search-returns-then-n-le-LEAF-clause-goes_on g t c = led_by c.args.caller.now (g.met.S.Stop.stays_at_once _)

pub search-returns-then-count-eq0-clause-goes_on : goal.search-returns-then-count-eq0-clause-goes_on
search-returns-then-count-eq0-clause-goes_on g t c = led_by c.args.caller.now c.is_set.ensures.stays

pub search-search_listed-requires : goal.search-search_listed-requires
search-search_listed-requires g t c κs within =
    let same : c.as_slice-2.result.now ≡ c.order.new.self.moves.items = c.as_slice-2.ensures.value ∙ c.copied-few.ensures ∙ c.as_slice.ensures.value in
    (omega (arith, c.decreases), (within.0, (within.1, ((omega arith, c.requires), (subst (ListsAll c.args.q.now.position) (sym same) c.order.ensures, subst (λ (l : List Ply). 0 < length l) (sym same) (omega arith))))))

pub search_many-search_listed-requires : goal.search_many-search_listed-requires
search_many-search_listed-requires g t c κs within =
    let same : c.as_slice-2.result.now ≡ c.args.lead.now.rooms.moves.items = c.as_slice-2.ensures.value ∙ c.copied-many.ensures ∙ c.as_slice.ensures.value in
    (omega (arith, c.decreases), (within.0, (within.1, (c.requires.plies, (subst (ListsAll c.args.q.now.position) (sym same) c.requires.lists, subst (λ (l : List Ply). 0 < length l) (sym same) c.requires.some)))))

pub search_listed-known_below-requires-clause-lawful : goal.search_listed-known_below-requires-clause-lawful
search_listed-known_below-requires-clause-lawful g t c = all_listed c.args.q.now.position c.args.moves.now c.requires.lists

pub search_listed-returns-in-Some-clause-goes_on : goal.search_listed-returns-in-Some-clause-goes_on
search_listed-returns-in-Some-clause-goes_on g t c = led_still g.met.S.Stop.stays_at_once c.known_below.ensures.goes_on

pub try_listed-loop-m-init : goal.try_listed-loop-m-init
try_listed-loop-m-init g t c = record { goes_on = led_by c.args.caller.now (g.met.S.Stop.stays_at_once _); passed = λ k d lt. absurd (omega (arith, lt)) }

pub search_in_rounds-returns-in_err-yes-clause-goes_on : goal.search_in_rounds-returns-in_err-yes-clause-goes_on
search_in_rounds-returns-in_err-yes-clause-goes_on g t c = led_more g.met.S.Stop.stays_on c.loop-yes.invariant.goes_on c.search.ensures.goes_on

pub search_in_rounds-returns-then-yes-clause-goes_on : goal.search_in_rounds-returns-then-yes-clause-goes_on
search_in_rounds-returns-then-yes-clause-goes_on g t c = led_more g.met.S.Stop.stays_on c.loop-yes.invariant.goes_on c.search.ensures.goes_on

pub search_in_rounds-returns-then-yes-clause-found : goal.search_in_rounds-returns-then-yes-clause-found
search_in_rounds-returns-then-yes-clause-found g t c = (
  elim c.then-yes.branch [
    | search_in_rounds-then-yes-via-then-yes w ↦ (λ _. forced_later c.args.q.now c.loop-yes.plies c.args.n c.loop-yes.invariant.plies (c.in_ok-yes.ensures.answer.0 w.if-yes.true), λ _. w.if-yes.true)
    | search_in_rounds-then-yes-via-else-yes+then-plies-n w ↦ subst (λ k. IsTrue c.in_ok-yes.yes ↔ IsForced c.args.q.now k) w.if-plies-n.true c.in_ok-yes.ensures.answer
  ],
  c.known_with-known.ensures.right,
)

pub search_in_rounds-loop-yes-preserved : goal.search_in_rounds-loop-yes-preserved
search_in_rounds-loop-yes-preserved g t c = record {
  goes_on = led_more g.met.S.Stop.stays_on c.loop-yes.invariant.goes_on c.search.ensures.goes_on;
  known = c.known_with-known.ensures.right;
  plies = omega arith;
}

pub try_listed-after-requires : goal.try_listed-after-requires
try_listed-after-requires g t c = (c.requires.lists c.m-item.result).0 (c.loop-m.m-index, c.loop-m-test.true, sym c.m-item.is)

pub try_listed-returns-in_err-yes-clause-goes_on : goal.try_listed-returns-in_err-yes-clause-goes_on
try_listed-returns-in_err-yes-clause-goes_on g t c = led_more g.met.S.Stop.stays_on c.loop-m.invariant.goes_on c.visit.ensures.goes_on

pub try_listed-returns-then-yes-own-clause-goes_on : goal.try_listed-returns-then-yes-own-clause-goes_on
try_listed-returns-then-yes-own-clause-goes_on g t c = led_more g.met.S.Stop.stays_on c.loop-m.invariant.goes_on c.visit.ensures.goes_on

pub try_listed-returns-then-yes-own-clause-answer : goal.try_listed-returns-then-yes-own-clause-answer
try_listed-returns-then-yes-own-clause-answer g t c =
    let answer = answer_as c.after.result c.after.result c.image.result (c.args.n - 1) c.in_ok-yes.yes refl c.image.ensures c.in_ok-yes.ensures.answer in
    ends_it c.args.q.now c.args.n c.is_own_turn-own.result c.is_own_turn-own.ensures (let plies = c.requires.plies.0 in omega arith)
    (cut_after c.args.q.now (c.args.n - 1) c.is_own_turn-own.result c.m-item.result c.after.result c.after.ensures (ends_by c.is_own_turn-own.result c.in_ok-yes.yes _ answer (beq_same _ _ c.if-yes-own.true)))

pub try_listed-loop-m-preserved : goal.try_listed-loop-m-preserved
try_listed-loop-m-preserved g t c =
    let answer = answer_as c.after.result c.after.result c.image.result (c.args.n - 1) c.in_ok-yes.yes refl c.image.ensures c.in_ok-yes.ensures.answer in
    record {
      goes_on = led_more g.met.S.Stop.stays_on c.loop-m.invariant.goes_on c.visit.ensures.goes_on;
      passed = passed_after c.args.q.now (c.args.n - 1) c.is_own_turn-own.result c.args.moves.now c.loop-m.m-index c.m-item.result c.after.result c.loop-m-test.true c.m-item.is c.after.ensures c.loop-m.invariant.passed
          (goes_by c.is_own_turn-own.result c.in_ok-yes.yes _ answer (beq_apart _ _ c.if-yes-own.false));
    }

pub try_listed-returns-clause-answer : goal.try_listed-returns-clause-answer
try_listed-returns-clause-answer g t c =
    none_ends c.args.q.now c.args.n c.is_own_turn-own.result c.is_own_turn-own.ensures (let plies = c.requires.plies.0 in omega arith) c.args.moves.now c.requires.lists c.requires.some c.loop-m.m-index c.loop-m-test.false c.loop-m.invariant.passed

pub visit-returns-in-Some-clause-answer : goal.visit-returns-in-Some-clause-answer
visit-returns-in-Some-clause-answer g t c = known_is_right c.args.q.now c.look_far-known.result c.look_far-known.ensures.right c.args.n c.in-Some.yes c.in-Some.ensures

pub visit-returns-in-Some-clause-goes_on : goal.visit-returns-in-Some-clause-goes_on
visit-returns-in-Some-clause-goes_on g t c = led_still g.met.S.Stop.stays_at_once c.look_far-known.ensures.goes_on

pub visit-returns-clause-goes_on : goal.visit-returns-clause-goes_on
visit-returns-clause-goes_on g t c = then_led c.look_far-known.ensures.goes_on c.search_from.ensures.goes_on

pub search_from-returns-clause-goes_on : goal.search_from-returns-clause-goes_on
search_from-returns-clause-goes_on g t c = led_then c.search_in_rounds.ensures.goes_on c.keep_far.ensures

pub search_listed-returns-then-is_none-clause-goes_on : goal.search_listed-returns-then-is_none-clause-goes_on
search_listed-returns-then-is_none-clause-goes_on g t c = then_led c.known_below.ensures.goes_on c.try_listed.ensures.goes_on

pub search_listed-returns-clause-goes_on : goal.search_listed-returns-clause-goes_on
search_listed-returns-clause-goes_on g t c = then_led c.known_below.ensures.goes_on c.search_entered.ensures.goes_on

pub search_entered-returns-in-PutOff-clause-goes_on : goal.search_entered-returns-in-PutOff-clause-goes_on
search_entered-returns-in-PutOff-clause-goes_on g t c = led_more g.met.S.Stop.stays_on c.try_free-found.ensures.goes_on c.try_listed.ensures.goes_on

pub try_free-loop-place-init : goal.try_free-loop-place-init
try_free-loop-place-init g t c = record { goes_on = led_by c.args.caller.now (g.met.S.Stop.stays_at_once _); passed = λ _ k d lt. absurd (omega (arith, lt)) }

pub try_free-after-requires : goal.try_free-after-requires
try_free-after-requires g t c = (c.requires.lists c.index-moves-place.result).0 (c.loop-place.place, c.loop-place-test.true, sym c.index-moves-place.is)

pub try_free-returns-in_err-visit-clause-goes_on : goal.try_free-returns-in_err-visit-clause-goes_on
try_free-returns-in_err-visit-clause-goes_on g t c = led_more g.met.S.Stop.stays_on c.loop-place.invariant.goes_on c.visit.ensures.goes_on

pub try_free-returns-then-branch-own-clause-goes_on : goal.try_free-returns-then-branch-own-clause-goes_on
try_free-returns-then-branch-own-clause-goes_on g t c = led_more g.met.S.Stop.stays_on c.loop-place.invariant.goes_on c.visit.ensures.goes_on

pub try_free-returns-then-branch-own-clause-found : goal.try_free-returns-then-branch-own-clause-found
try_free-returns-then-branch-own-clause-found g t c =
    let answer = answer_as c.after.result c.after.result c.image-next.result (c.args.n - 1) c.in_ok-visit.field-0 refl c.image-next.ensures c.in_ok-visit.ensures.answer in
    ends_it c.args.q.now c.args.n c.is_own_turn-own.result c.is_own_turn-own.ensures (let plies = c.requires.plies.0 in omega arith)
    (cut_after c.args.q.now (c.args.n - 1) c.is_own_turn-own.result c.index-moves-place.result c.after.result c.after.ensures (ends_by c.is_own_turn-own.result c.in_ok-visit.field-0 _ answer (beq_same _ _ c.if-branch-own.true)))

pub try_free-loop-place-preserved : goal.try_free-loop-place-preserved
try_free-loop-place-preserved g t c =
    let answer = answer_as c.after.result c.after.result c.image-next.result (c.args.n - 1) c.in_ok-visit.field-0 refl c.image-next.ensures c.in_ok-visit.ensures.answer in
    record {
      goes_on = led_more g.met.S.Stop.stays_on c.loop-place.invariant.goes_on c.visit.ensures.goes_on;
      passed = λ none. passed_after c.args.q.now (c.args.n - 1) c.is_own_turn-own.result c.args.moves.now c.loop-place.place c.index-moves-place.result c.after.result c.loop-place-test.true c.index-moves-place.is c.after.ensures (c.loop-place.invariant.passed none)
          (goes_by c.is_own_turn-own.result c.in_ok-visit.field-0 _ answer (beq_apart _ _ c.if-branch-own.false));
    }

pub try_free-returns-clause-found : goal.try_free-returns-clause-found
try_free-returns-clause-found g t c =
    none_ends c.args.q.now c.args.n c.is_own_turn-own.result c.is_own_turn-own.ensures (let plies = c.requires.plies.0 in omega arith) c.args.moves.now c.requires.lists c.requires.some c.loop-place.place c.loop-place-test.false
    (c.loop-place.invariant.passed c.if-some_put_off.false)
