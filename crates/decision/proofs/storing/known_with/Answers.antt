use Rattle.decision.proofs.Replies.{said_is_right}
use Rattle.decision.proofs.storing.known_with.Goals as goal

pub meet-requires : goal.meet-requires
meet-requires c = c.interval_laws.ensures.consistent _ c.said.result c.args.known (rw c.said.ensures (said_is_right c.args.q.now c.args.n c.args.yes c.requires.answer)) c.requires.known

pub returns-clause-right : goal.returns-clause-right
returns-clause-right c =
    rw c.meet.ensures
    (c.interval_laws.ensures.right _ c.said.result c.args.known (rw c.said.ensures (said_is_right c.args.q.now c.args.n c.args.yes c.requires.answer)) c.requires.known)
