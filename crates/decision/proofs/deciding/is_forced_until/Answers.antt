use Rattle.std.proofs.Common.{rules}
use Rattle.decision.specs.Calls.{Continues}
use Rattle.decision.proofs.Callers.{goes_more, at_end}
use Rattle.decision.proofs.Options.{some_weaker}
use Rattle.decision.proofs.Replies.{known_is_right, answer_as}
use Rattle.decision.proofs.deciding.is_forced_until.Goals as goal

pub returns-in-Some-clause-stop : goal.returns-in-Some-clause-stop
returns-in-Some-clause-stop g c = g.met.S.Stop.stays_at_once _

pub returns-in-Some-clause-answer : goal.returns-in-Some-clause-answer
returns-in-Some-clause-answer g c =
    answer_as c.args.q.now c.copied.result c.image-image.result c.args.n c.in-Some.yes c.copied.ensures c.image-image.ensures
    (known_is_right c.image-image.result c.look_far-known.result c.look_far-known.ensures.right c.args.n c.in-Some.yes c.in-Some.ensures)

pub returns-in-None-clause-continues : goal.returns-in-None-clause-continues
returns-in-None-clause-continues g c =
    let goes = goes_more c.look_far-known.ensures.goes_on c.search_on.ensures.goes_on in
    at_end (Continues c.args.slots.now c.args.seat.now) goes (search rules) goes.calls

pub returns-in-None-clause-answer : goal.returns-in-None-clause-answer
returns-in-None-clause-answer g c =
    some_weaker c.search_on.result _ _ _ (λ yes h. answer_as c.args.q.now c.copied.result c.image-image.result c.args.n yes c.copied.ensures c.image-image.ensures h) c.search_on.ensures.answer
