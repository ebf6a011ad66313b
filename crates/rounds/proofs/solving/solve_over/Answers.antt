use Rattle.std.proofs.Common.{ℕ, ◌<◌, ◌≤◌, refl, arith, rules, sym, subst, ◌∙◌, ◌+◌, ◌*◌}
use Rattle.board.specs.Board.{PlainBoard}
use Rattle.rules.specs.declared.goal.Goal.{Goal}
use Rattle.problems.specs.Answer.{IsAnswer}
use Rattle.problems.specs.declared.answer.Answer.TheVariants.{Mate, NoneWithin}
use Rattle.problems.specs.Roots.{EndsRound}
use Rattle.problems.proofs.Jobs.{move_at, answered, more_rounds}
use Rattle.problems.proofs.Winning.{nothing_at_once}
use Rattle.rounds.proofs.Going.{seats_none, seats_more}
use Rattle.rounds.proofs.solving.solve_over.Goals as goal

pub loop-number-init : goal.loop-number-init
loop-number-init g c = record {
  count = refl;
  seats = c.requires;
  go_on = seats_none g.T.Gate.keeps c.args.task.now.slots.now c.args.seats.now.items c.requires.2;
  nothing = nothing_at_once c.of.result.goal c.of.result.board;
}

pub returns-in-Some-clause-answer : goal.returns-in-Some-clause-answer
returns-in-Some-clause-answer g c =
    let r = c.of.result in
    let is = c.of.ensures in
    let n = 2 * c.loop-number.number + 1 in
    let first = c.index-deref-from.result in
    subst (λ (at : Goal × PlainBoard × ℕ). IsAnswer at.0 at.1 at.2 (Mate n first)) (λ i. (is.goal i, is.position i, is.limit i))
    (answered r.goal r.board r.moves.items is.lists c.loop-number.number n r.limit c.in-Some.job first
    refl (search rules) c.loop-number.invariant.nothing
    (move_at r.moves.items c.deref.result.now c.from.result c.in-Some.job first c.deref.ensures.0 c.from.ensures c.index-deref-from.is)
    (subst (EndsRound r n) c.in-Some.is c.in_ok-job.ensures.end))

pub returns-clause-answer : goal.returns-clause-answer
returns-clause-answer g c =
    let r = c.of.result in
    let is = c.of.ensures in
    subst (λ (at : Goal × PlainBoard × ℕ). IsAnswer at.0 at.1 at.2 (NoneWithin r.limit)) (λ i. (is.goal i, is.position i, is.limit i))
    (refl, λ n within. c.loop-number.invariant.nothing n (omega (arith, within, c.loop-number-test.false)))

pub returns-in-Some-clause-go_on : goal.returns-in-Some-clause-go_on
returns-in-Some-clause-go_on g c =
    seats_more g.T.Gate.keeps c.args.task.now.slots.now c.args.seats.now.items c.loop-number.seats.items c.round.new.seats.items c.loop-number.invariant.go_on c.round.ensures.go_on

pub returns-in_err-job-clause-go_on : goal.returns-in_err-job-clause-go_on
returns-in_err-job-clause-go_on g c =
    seats_more g.T.Gate.keeps c.args.task.now.slots.now c.args.seats.now.items c.loop-number.seats.items c.round.new.seats.items c.loop-number.invariant.go_on c.round.ensures.go_on

pub loop-number-preserved : goal.loop-number-preserved
loop-number-preserved g c = let r = c.of.result in record {
  count = c.round.ensures.seats.0 ∙ c.loop-number.invariant.count;
  seats = let i = c.loop-number.invariant.seats in
      (subst (λ n. 0 < n) (sym c.round.ensures.seats.0) i.0, subst (λ n. n ≤ 17) (sym c.round.ensures.seats.0) i.1, c.round.ensures.seats.1);
  go_on = seats_more g.T.Gate.keeps c.args.task.now.slots.now c.args.seats.now.items c.loop-number.seats.items c.round.new.seats.items c.loop-number.invariant.go_on c.round.ensures.go_on;
  nothing = more_rounds r.goal r.board r.moves.items c.of.ensures.lists c.loop-number.number (2 * c.loop-number.number + 1) refl c.loop-number.invariant.nothing
      (subst (EndsRound r (2 * c.loop-number.number + 1)) c.in_default.is c.in_ok-job.ensures.end);
}
