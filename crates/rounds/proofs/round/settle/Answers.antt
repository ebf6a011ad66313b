use Rattle.std.proofs.Common.{arith, sym, ◌∙◌}
use Rattle.std.proofs.lemmas.Bool.{false≢true}
use Rattle.std.proofs.lemmas.List.Elements.{All-weaker, length_all_zip}
use Rattle.slots.specs.Promise.{IsSeatOf}
use Rattle.rounds.specs.Shares.{IsShare, WinsHere}
use Rattle.rounds.specs.Going.{SeatGoesOn}
use Rattle.rounds.proofs.Going.{each_none, each_more}
use Rattle.problems.proofs.Jobs.{none_next}
use Rattle.rounds.proofs.round.settle.Goals as goal

pub wins-requires-clause-some : goal.wins-requires-clause-some
wins-requires-clause-some g c κs within =
    omega (
      arith,
      c.requires.some,
      length_all_zip (λ a b. SeatGoesOn g.T.Gate.keeps c.args.round.now.search.now.slots.now a.seat b.seat) c.args.shares.now.items c.loop-job.shares.items c.loop-job.invariant.go_on,
    )

pub wins-requires-clause-job : goal.wins-requires-clause-job
wins-requires-clause-job g c κs within = omega (arith, c.loop-job-test.true, c.jobs-job-end.ensures.value, c.requires.round.count)

pub loop-job-preserved : goal.loop-job-preserved
loop-job-preserved g c = record {
  shares = c.wins.ensures.shares;
  go_on = each_more g.T.Gate.keeps c.args.round.now.search.now.slots.now _ _ _ c.loop-job.invariant.go_on c.wins.ensures.go_on;
  none = none_next (WinsHere c.args.round.now) c.loop-job.job (λ w. false≢true (sym c.if-wins.false ∙ c.wins.ensures.wins.1 w)) c.loop-job.invariant.none;
}

pub returns-clause-end : goal.returns-clause-end
returns-clause-end g c = λ k h w. c.loop-job.invariant.none k (omega (arith, h, c.loop-job-test.false, c.jobs-job-end.ensures.value)) w

pub returns-then-wins-clause-go_on : goal.returns-then-wins-clause-go_on
returns-then-wins-clause-go_on g c = each_more g.T.Gate.keeps c.args.round.now.search.now.slots.now _ _ _ c.loop-job.invariant.go_on c.wins.ensures.go_on

pub loop-job-init : goal.loop-job-init
loop-job-init g c = record {
  shares = c.requires.shares;
  go_on = each_none g.T.Gate.keeps c.args.round.now.search.now.slots.now _
      (All-weaker (IsShare g.J.Count.jobs c.args.round.now) (λ s. IsSeatOf c.args.round.now.search.now.slots.now s.seat) (λ s h. h.seat) _ c.requires.shares);
  none = λ k lt w. absurd (omega (arith, lt));
}
