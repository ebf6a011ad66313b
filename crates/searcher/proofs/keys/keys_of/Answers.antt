use Rattle.std.proofs.Common.{◌<◌, length, arith, rules}
use Rattle.decision.proofs.Options.{none_at, some_at}
use Rattle.problems.proofs.Jobs.{move_at}
use Rattle.searcher.proofs.Taking.{one_key, no_key, all_keys}
use Rattle.searcher.proofs.keys.keys_of.Goals as goal
use Rattle.searcher.proofs.keys.keys_of.Goals.{in-Some-found+in_ok-push, in_default-found}

pub loop-job-init : goal.loop-job-init
loop-job-init g c = record { goes = g.met.D.Decider.goes_at_once _; ordered = search rules; exact = search rules }

pub loop-job-preserved : goal.loop-job-preserved
loop-job-preserved g c =
    let r = c.args.root.now in
    let i = c.loop-job.invariant in
    let below : c.loop-job.job < length r.moves.items = omega (arith, c.loop-job-test.true, c.jobs-job-end.ensures.value) in
    let is = move_at r.moves.items c.deref.result.now c.from.result c.loop-job.job c.index-deref-from.result c.deref.ensures.0 c.from.ensures c.index-deref-from.is in
    let goes = g.met.D.Decider.goes_on _ _ _ i.goes c.plies_of.ensures.goes in
    elim c.match-found.branch [
      | in-Some-found+in_ok-push w ↦
          let takes = some_at c.in-Some.found w.in-Some-found.plies _ _ w.in-Some-found.is c.in-Some.ensures.plies in
          let more = one_key r c.loop-job.keys.items c.loop-job.job below i.exact c.index-deref-from.result w.in-Some-found.plies c.requires.root is i.ordered takes.0 takes.1 in
          record { goes = goes; ordered = rw (w.keys-is, w.in_ok-push.ensures.items) more.0; exact = rw (w.keys-is, w.in_ok-push.ensures.items) more.1 }
      | in_default-found w ↦
          record {
            goes = goes;
            ordered = rw w.keys-is i.ordered;
            exact = rw w.keys-is (no_key r c.loop-job.keys.items c.loop-job.job below i.exact c.index-deref-from.result is
                (none_at c.in-Some.found _ _ w.in_default-found.not-Some c.in-Some.ensures.plies));
          }
    ]

pub returns-clause-keys : goal.returns-clause-keys
returns-clause-keys g c =
    all_keys c.args.root.now c.loop-job.keys.items c.loop-job.job c.requires.root (omega (arith, c.loop-job-test.false, c.jobs-job-end.ensures.value)) c.loop-job.invariant.ordered c.loop-job.invariant.exact
