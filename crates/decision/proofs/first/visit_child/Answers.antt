use Rattle.decision.specs.Decisions.{IsAsked}
use Rattle.decision.proofs.Callers.{goes_more, led_then, then_led, led_still, on_added}
use Rattle.decision.proofs.Replies.{known_is_right}
use Rattle.decision.proofs.Below.{asked_on}
use Rattle.decision.proofs.first.visit_child.Goals as goal

pub returns-in-Some-clause-answer : goal.returns-in-Some-clause-answer
returns-in-Some-clause-answer g c = known_is_right c.args.q.now c.look-known.result c.look-known.ensures.right c.args.n c.in-Some.yes c.in-Some.ensures

pub returns-in-Some-clause-goes_on : goal.returns-in-Some-clause-goes_on
returns-in-Some-clause-goes_on g c = led_still g.met.S.Stop.stays_at_once c.look-known.ensures.goes_on

pub returns-in_err-found-clause-goes_on : goal.returns-in_err-found-clause-goes_on
returns-in_err-found-clause-goes_on g c = then_led c.look-known.ensures.goes_on c.search_in_rounds.ensures.goes_on

pub returns-in_err-found-clause-asked : goal.returns-in_err-found-clause-asked
returns-in_err-found-clause-asked g c = on_added (IsAsked c.args.q.now) c.look-known.ensures.goes_on c.search_in_rounds.ensures.goes_on.caller (asked_on c.args.q.now) c.look-known.ensures.asked

pub returns-clause-goes_on : goal.returns-clause-goes_on
returns-clause-goes_on g c = then_led c.look-known.ensures.goes_on (led_then c.search_in_rounds.ensures.goes_on c.keep.ensures.goes_on)

pub returns-clause-asked : goal.returns-clause-asked
returns-clause-asked g c = on_added (IsAsked c.args.q.now) c.look-known.ensures.goes_on (goes_more c.search_in_rounds.ensures.goes_on.caller c.keep.ensures.goes_on) (asked_on c.args.q.now) c.look-known.ensures.asked
