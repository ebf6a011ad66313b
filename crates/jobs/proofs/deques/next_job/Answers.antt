use Rattle.jobs.proofs.Deals.{takes, pops}
use Rattle.jobs.proofs.deques.next_job.Goals as goal

pub pop_as-requires-clause-fifo : goal.pop_as-requires-clause-fifo
pop_as-requires-clause-fifo g c = λ _. takes _ _ _ _ 1

pub pop_as-requires-clause-lifo : goal.pop_as-requires-clause-lifo
pop_as-requires-clause-lifo g c = λ _. pops _ _ _ _
