use Rattle.std.proofs.Common.{arith, sym, ◌∙◌}
use Rattle.std.proofs.lemmas.Bool.{false≢true}
use Rattle.problems.specs.Roots.{WinsIn}
use Rattle.problems.proofs.Jobs.{none_next}
use Rattle.searcher.proofs.solving.least_win.Goals as goal

pub loop-job-init : goal.loop-job-init
loop-job-init g c = record { goes = g.met.D.Decider.goes_at_once _; none = λ k lt w. absurd (omega (arith, lt)) }

pub returns-in_err-wins-clause-goes : goal.returns-in_err-wins-clause-goes
returns-in_err-wins-clause-goes g c = g.met.D.Decider.goes_on _ _ _ c.loop-job.invariant.goes c.wins.ensures.goes

pub returns-then-branch-clause-goes : goal.returns-then-branch-clause-goes
returns-then-branch-clause-goes g c = g.met.D.Decider.goes_on _ _ _ c.loop-job.invariant.goes c.wins.ensures.goes

pub loop-job-preserved : goal.loop-job-preserved
loop-job-preserved g c = record {
  goes = g.met.D.Decider.goes_on _ _ _ c.loop-job.invariant.goes c.wins.ensures.goes;
  none = none_next (WinsIn c.args.root.now c.args.plies) c.loop-job.job (λ w. false≢true (sym c.if-branch.false ∙ c.in_ok-wins.ensures.wins.1 w)) c.loop-job.invariant.none;
}

pub returns-clause-least : goal.returns-clause-least
returns-clause-least g c = λ k h w. c.loop-job.invariant.none k (omega (arith, h, c.loop-job-test.false, c.jobs-job-end.ensures.value)) w
