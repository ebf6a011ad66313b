use Rattle.std.proofs.Common.{rules, subst, [], append-nil}
use Rattle.crossbeam_deque.specs.Handles.{worker_view}
use Rattle.jobs.specs.Deals.{Deals, no_more}
use Rattle.jobs.proofs.Deals.{pushes, dealt_next}
use Rattle.jobs.proofs.deques.deal.Goals as goal

pub push_as-requires-clause-pushes : goal.push_as-requires-clause-pushes
push_as-requires-clause-pushes g c = pushes _ _ _ _ (search rules)

pub loop-job-preserved : goal.loop-job-preserved
loop-job-preserved g c = record {
  few = search rules;
  room = search rules;
  dealt = dealt_next c.args.step c.args.count c.args.from c.loop-job.job (worker_view c.loop-job.local) (worker_view c.push_as.new.self) c.in-Ok.ensures.rule.0 c.loop-job-test.true c.loop-job.invariant.dealt;
}

pub returns : goal.returns
returns g c =
    subst (Deals c.args.step c.args.count c.args.from) (append-nil (worker_view c.loop-job.local)) (c.loop-job.invariant.dealt [] (no_more c.loop-job-test.false))
