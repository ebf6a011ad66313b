use Rattle.decision.proofs.Replies.{reply_to}
use Rattle.decision.proofs.asking.ask_near.Goals as goal

-- by the question's own key and slot
pub returns-clause-asked : goal.returns-clause-asked
returns-clause-asked g c = rw (c.first_slot-slot.ensures.value, c.table_key-key.ensures.value) at c.ask.ensures

pub returns-clause-reply : goal.returns-clause-reply
returns-clause-reply g c = reply_to c.args.q.now c.table_key-key.ensures.position c.table_key-key.result c.table_key-key.ensures.value c.ask.result c.ask.ensures.hit
