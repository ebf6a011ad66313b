use Rattle.decision.specs.Decisions.{IsAsked}
use Rattle.decision.proofs.Callers.{goes_more, on_added}
use Rattle.decision.proofs.Replies.{known_back}
use Rattle.decision.proofs.Below.{asked_on}
use Rattle.decision.proofs.asking.look.Goals as goal

pub returns-then-is_some-clause-right : goal.returns-then-is_some-clause-right
returns-then-is_some-clause-right g c = c.ask_near.ensures.reply.right c.told-near.result c.told-near.ensures

pub meet-requires : goal.meet-requires
meet-requires g c =
    c.interval_laws.ensures.consistent _ c.told-near.result c.look_far-far.result (c.ask_near.ensures.reply.right c.told-near.result c.told-near.ensures)
    (known_back c.args.q.now c.copied.result c.image.result c.look_far-far.result c.copied.ensures c.image.ensures c.look_far-far.ensures.right)

pub returns-clause-right : goal.returns-clause-right
returns-clause-right g c =
    rw c.meet.ensures
    (c.interval_laws.ensures.right _ c.told-near.result c.look_far-far.result (c.ask_near.ensures.reply.right c.told-near.result c.told-near.ensures)
    (known_back c.args.q.now c.copied.result c.image.result c.look_far-far.result c.copied.ensures c.image.ensures c.look_far-far.ensures.right))

pub returns-clause-goes_on : goal.returns-clause-goes_on
returns-clause-goes_on g c = goes_more c.ask_near.ensures.asked.goes_on c.look_far-far.ensures.goes_on

pub returns-clause-asked : goal.returns-clause-asked
returns-clause-asked g c = on_added (IsAsked c.args.q.now) c.ask_near.ensures.asked.goes_on c.look_far-far.ensures.goes_on (asked_on c.args.q.now) c.ask_near.ensures.asked.first
