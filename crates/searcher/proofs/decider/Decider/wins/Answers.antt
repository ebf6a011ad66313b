use Rattle.decision.proofs.Options.{some_weaker}
use Rattle.problems.proofs.Jobs.{job_after}
use Rattle.searcher.proofs.decider.Decider.wins.Goals as goal

pub returns-clause-wins : goal.returns-clause-wins
returns-clause-wins g c =
    some_weaker c.forces.result _ _ _ (λ yes h. job_after c.args.root.now c.args.plies c.args.job c.question_of-q.result yes c.question_of-q.ensures h) c.forces.ensures.answer
