use Rattle.decision.proofs.Replies.{told_is_right}
use Rattle.decision.proofs.asking.look_far.Goals as goal

pub returns-clause-right : goal.returns-clause-right
returns-clause-right g c = told_is_right c.args.q.now c.table_key-key.ensures.position c.table_key-key.result c.table_key-key.ensures.value c.ask.result c.ask.ensures.hit c.told.result c.told.ensures
