use Rattle.std.proofs.Common.{sym, subst, arith, ◌∙◌, ◌+◌, ◌*◌, ◌↔◌, IsTrue}
use Rattle.std.proofs.lemmas.Bool.{false≢true}
use Rattle.problems.specs.declared.question.Question.{Question}
use Rattle.problems.specs.Questions.{IsForced}
use Rattle.problems.proofs.Winning.{forced_by, next_round, nothing_at_once}
use Rattle.searcher.proofs.best.fewest_plies.Goals as goal

pub loop-round-init : goal.loop-round-init
loop-round-init g c = record { goes = g.met.D.Decider.goes_at_once _; nothing = nothing_at_once c.args.root.now.goal c.args.root.now.board }

pub returns-in_err-forces-clause-goes : goal.returns-in_err-forces-clause-goes
returns-in_err-forces-clause-goes g c = g.met.D.Decider.goes_on _ _ _ c.loop-round.invariant.goes c.forces.ensures.goes

pub returns-then-branch-clause-goes : goal.returns-then-branch-clause-goes
returns-then-branch-clause-goes g c = g.met.D.Decider.goes_on _ _ _ c.loop-round.invariant.goes c.forces.ensures.goes

pub returns-then-branch-clause-fewest : goal.returns-then-branch-clause-fewest
returns-then-branch-clause-fewest g c =
    let most = c.args.root.now.limited in
    let test = c.loop-round-test.true in
    let answer = subst (λ (q : Question). IsTrue c.in_ok-forces.field-0 ↔ IsForced q (2 * c.loop-round.round + 1)) c.question-q.ensures c.in_ok-forces.ensures.answer in (
      omega arith,
      record { forced = answer.0 c.if-branch.true; fewer = λ k less f. c.loop-round.invariant.nothing k (omega (arith, less)) f },
    )

pub loop-round-preserved : goal.loop-round-preserved
loop-round-preserved g c =
    let r = c.args.root.now in
    let answer = subst (λ (q : Question). IsTrue c.in_ok-forces.field-0 ↔ IsForced q (2 * c.loop-round.round + 1)) c.question-q.ensures c.in_ok-forces.ensures.answer in
    record {
      goes = g.met.D.Decider.goes_on _ _ _ c.loop-round.invariant.goes c.forces.ensures.goes;
      nothing = next_round r.goal r.board c.loop-round.round c.loop-round.invariant.nothing
          (λ m w. false≢true (sym c.if-branch.false ∙ answer.1 (forced_by r.goal r.board (2 * c.loop-round.round + 1) m (omega arith) w)));
    }

pub unreachable-requires : goal.unreachable-requires
unreachable-requires g c = let past = c.loop-round-test.false in c.loop-round.invariant.nothing c.args.root.now.limit (omega (arith, past)) c.requires.forced
