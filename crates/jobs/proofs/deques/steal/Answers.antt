use Rattle.jobs.proofs.Deals.{takes}
use Rattle.jobs.proofs.deques.steal.Goals as goal

pub steal_as-requires-clause-takes : goal.steal_as-requires-clause-takes
steal_as-requires-clause-takes g c = takes _ _ _ _ 1
