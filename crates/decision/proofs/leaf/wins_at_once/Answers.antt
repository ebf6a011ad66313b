use Rattle.problems.proofs.LastPlies.{at_once_for}
use Rattle.decision.proofs.leaf.wins_at_once.Goals as goal

pub returns : goal.returns
returns c = at_once_for c.args.q.now c.reaches_at_once.result c.requires c.reaches_at_once.ensures
