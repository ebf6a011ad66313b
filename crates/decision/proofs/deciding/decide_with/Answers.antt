use Rattle.decision.proofs.Callers.{goes_more}
use Rattle.decision.proofs.Replies.{known_is_right, settled_by, unsettled_by}
use Rattle.decision.proofs.Below.{decided_at_once, decided_found}
use Rattle.decision.proofs.Options.{some_weaker}
use Rattle.decision.proofs.deciding.decide_with.Goals as goal

pub returns-in-Some-clause-decided : goal.returns-in-Some-clause-decided
returns-in-Some-clause-decided g c =
    let near = c.ask_near-reply.ensures in
    decided_at_once c.args.q.now c.args.n c.in-Some.yes c.ask_near-reply.result near.asked
    (known_is_right c.args.q.now c.told.result (near.reply.right c.told.result c.told.ensures) c.args.n c.in-Some.yes c.in-Some.ensures)
    (settled_by _ c.ask_near-reply.result c.told.result c.args.n c.in-Some.yes near.reply.hit c.told.ensures c.in-Some.ensures)

pub returns-in-Some-clause-stop : goal.returns-in-Some-clause-stop
returns-in-Some-clause-stop g c = g.met.S.Stop.stays_at_once _

pub returns-in-None-clause-goes_on : goal.returns-in-None-clause-goes_on
returns-in-None-clause-goes_on g c = goes_more c.ask_near-reply.ensures.asked.goes_on c.search_and_keep.ensures.goes_on

pub returns-in-None-clause-decided : goal.returns-in-None-clause-decided
returns-in-None-clause-decided g c =
    some_weaker c.search_and_keep.result _ _ _
    (λ d found. decided_found c.search_and_keep.ensures.goes_on c.args.q.now c.args.n c.ask_near-reply.result d c.ask_near-reply.ensures.asked (unsettled_by c.ask_near-reply.result c.told.result c.args.n c.told.ensures c.in-None.ensures) found)
    c.search_and_keep.ensures.found
