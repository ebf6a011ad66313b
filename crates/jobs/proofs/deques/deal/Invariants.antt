use Rattle.std.proofs.Common.{◌-◌, ◌≤◌}
use Rattle.crossbeam_deque.specs.Handles.{worker_index, worker_capacity, worker_view}
use Rattle.jobs.proofs.Deals.{DealtTo}
use Rattle.jobs.proofs.deques.deal.Given as goal

-- as many tasks as jobs passed, at most, and room for all; and what is put is what was to be dealt so far
abbrev pub invariant-loop-job : goal.invariant-loop-job
invariant-loop-job g l =
    record {
      few : worker_index l.local ≤ l.job;
      room : l.count ≤ worker_capacity l.local;
      dealt : DealtTo l.step l.count l.from (worker_view l.local) l.job;
    }

abbrev pub decreases-loop-job : goal.decreases-loop-job
decreases-loop-job g l = l.count - l.job
