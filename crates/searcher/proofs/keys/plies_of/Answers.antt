use Rattle.std.proofs.Common.{arith, sym, ◌∙◌}
use Rattle.std.proofs.lemmas.Bool.{false≢true}
use Rattle.searcher.proofs.Taking.{none_more, takes_now, takes_none}
use Rattle.searcher.proofs.keys.plies_of.Goals as goal

pub loop-number-init : goal.loop-number-init
loop-number-init g c = record { goes = g.met.D.Decider.goes_at_once _; none = λ k some few w. absurd (omega (arith, some, few)) }

pub returns-in_err-wins-clause-goes : goal.returns-in_err-wins-clause-goes
returns-in_err-wins-clause-goes g c = g.met.D.Decider.goes_on _ _ _ c.loop-number.invariant.goes c.wins.ensures.goes

pub returns-then-branch-clause-goes : goal.returns-then-branch-clause-goes
returns-then-branch-clause-goes g c = g.met.D.Decider.goes_on _ _ _ c.loop-number.invariant.goes c.wins.ensures.goes

pub returns-then-branch-clause-plies : goal.returns-then-branch-clause-plies
returns-then-branch-clause-plies g c =
    (omega (arith, c.loop-number-test.true), takes_now c.args.root.now c.args.job c.loop-number.number c.loop-number.invariant.none (c.in_ok-wins.ensures.wins.0 c.if-branch.true))

pub loop-number-preserved : goal.loop-number-preserved
loop-number-preserved g c = record {
  goes = g.met.D.Decider.goes_on _ _ _ c.loop-number.invariant.goes c.wins.ensures.goes;
  none = none_more c.args.root.now c.args.job c.loop-number.number c.loop-number.invariant.none (λ w. false≢true (sym c.if-branch.false ∙ c.in_ok-wins.ensures.wins.1 w));
}

pub returns-clause-plies : goal.returns-clause-plies
returns-clause-plies g c = takes_none c.args.root.now c.args.job c.loop-number.number c.args.root.now.limit (omega (arith, c.loop-number-test.false)) c.loop-number.invariant.none
