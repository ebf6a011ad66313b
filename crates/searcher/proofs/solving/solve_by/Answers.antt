use Rattle.std.proofs.Common.{refl, arith, subst, ◌+◌, ◌*◌}
use Rattle.problems.specs.Roots.{EndsRound}
use Rattle.problems.proofs.Jobs.{move_at, answered, more_rounds}
use Rattle.problems.proofs.Winning.{nothing_at_once}
use Rattle.decision.proofs.Options.{none_is}
use Rattle.searcher.proofs.solving.solve_by.Goals as goal

pub loop-number-init : goal.loop-number-init
loop-number-init g c = record { goes = g.met.D.Decider.goes_at_once _; nothing = nothing_at_once c.args.root.now.goal c.args.root.now.board }

pub returns-in_err-job-clause-goes : goal.returns-in_err-job-clause-goes
returns-in_err-job-clause-goes g c = g.met.D.Decider.goes_on _ _ _ c.loop-number.invariant.goes c.least_win.ensures.goes

pub returns-in-Some-clause-goes : goal.returns-in-Some-clause-goes
returns-in-Some-clause-goes g c = g.met.D.Decider.goes_on _ _ _ c.loop-number.invariant.goes c.least_win.ensures.goes

pub returns-in-Some-clause-answer : goal.returns-in-Some-clause-answer
returns-in-Some-clause-answer g c = let r = c.args.root.now in
    answered r.goal r.board r.moves.items c.requires.root c.loop-number.number (2 * c.loop-number.number + 1) r.limit c.in-Some.job c.index-deref-from.result
    refl (omega (arith, c.loop-number-test.true)) c.loop-number.invariant.nothing
    (move_at r.moves.items c.deref.result.now c.from.result c.in-Some.job c.index-deref-from.result c.deref.ensures.0 c.from.ensures c.index-deref-from.is)
    (subst (EndsRound r (2 * c.loop-number.number + 1)) c.in-Some.is c.in_ok-job.ensures.least)

pub loop-number-preserved : goal.loop-number-preserved
loop-number-preserved g c = let r = c.args.root.now in record {
  goes = g.met.D.Decider.goes_on _ _ _ c.loop-number.invariant.goes c.least_win.ensures.goes;
  nothing = more_rounds r.goal r.board r.moves.items c.requires.root c.loop-number.number (2 * c.loop-number.number + 1) refl c.loop-number.invariant.nothing
      (subst (EndsRound r (2 * c.loop-number.number + 1)) (none_is c.in_ok-job.field-0 c.in_default.not-Some) c.in_ok-job.ensures.least);
}
