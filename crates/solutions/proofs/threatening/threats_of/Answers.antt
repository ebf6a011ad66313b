use Rattle.std.proofs.Common.{◌≤◌, sym, subst, ◌∙◌, arith}
use Rattle.solutions.proofs.Common.{false≢true, PlainBoard, Goal, same_side-self, IsFewest, ForcesNothing, err_halts, some_ply, not_reached, ListsContinuations, passed}
use Rattle.solutions.proofs.Forcing.{mate_found, nothing_found, carried}
use Rattle.solutions.proofs.threatening.threats_of.Goals as goal

pub returns-in_default-clause-threats : goal.returns-in_default-clause-threats
returns-in_default-clause-threats g c = (not_reached c.args.goal c.args.board.now (c.has_lawful_move.ensures.0 c.if-not-has_lawful_move.false), c.in_default.ensures)

pub continuations_of-requires-clause-plies : goal.continuations_of-requires-clause-plies
continuations_of-requires-clause-plies g c =
    let r = c.on-root.result in
    let most = r.limited in
    let found = mate_found r.goal r.board r.limit c.in-Some-Mate.field-0 c.in-Some-Mate.plies c.in-Some-Mate.field-0-1 c.in-Some-Mate.field-0-is c.in-Some-Mate.ensures.answer in
    (some_ply r.goal r.board.mover r.board c.in-Some-Mate.plies (same_side-self r.board.mover) found.1.forced, omega (arith, found.0))

pub returns-in_err-continuations_of-in-Some-Mate-clause-goes : goal.returns-in_err-continuations_of-in-Some-Mate-clause-goes
returns-in_err-continuations_of-in-Some-Mate-clause-goes g c = g.met.D.Decider.goes_on _ _ _ c.solve_by.ensures.goes c.continuations_of.ensures.goes

pub returns-in_err-continuations_of-in-Some-Mate-clause-halt : goal.returns-in_err-continuations_of-in-Some-Mate-clause-halt
returns-in_err-continuations_of-in-Some-Mate-clause-halt g c = err_halts c.from_residual.result _ _ c.from_residual.ensures.1 c.in_err-continuations_of-in-Some-Mate.ensures.halt

pub returns-in-Some-NoneWithin-clause-threats : goal.returns-in-Some-NoneWithin-clause-threats
returns-in-Some-NoneWithin-clause-threats g c = let r = c.on-root.result in (
  not_reached c.args.goal c.args.board.now (c.has_lawful_move.ensures.0 c.if-not-has_lawful_move.false),
  c.in-Some.ensures.1,
  carried (λ (x : Goal) (b : PlainBoard). ForcesNothing x b c.args.left) r.goal c.args.goal r.board c.in-Some.next (passed c.args.board.now) c.on-root.ensures.goal c.on-root.ensures.position c.in-Some.ensures.0 (subst (ForcesNothing r.goal r.board) c.on-root.ensures.limit (nothing_found r.goal r.board r.limit c.in-Some-NoneWithin.field-0 c.in-Some-NoneWithin.field-0-0 c.in-Some-NoneWithin.field-0-is c.in-Some-NoneWithin.ensures.answer)),
)

pub returns-in_ok-continuations_of-in-Some-Mate-clause-goes : goal.returns-in_ok-continuations_of-in-Some-Mate-clause-goes
returns-in_ok-continuations_of-in-Some-Mate-clause-goes g c = g.met.D.Decider.goes_on _ _ _ c.solve_by.ensures.goes c.continuations_of.ensures.goes

pub returns-in_ok-continuations_of-in-Some-Mate-clause-threats : goal.returns-in_ok-continuations_of-in-Some-Mate-clause-threats
returns-in_ok-continuations_of-in-Some-Mate-clause-threats g c =
    let n = c.in-Some-Mate.plies in
    let r = c.on-root.result in
    let found = mate_found r.goal r.board r.limit c.in-Some-Mate.field-0 n c.in-Some-Mate.field-0-1 c.in-Some-Mate.field-0-is c.in-Some-Mate.ensures.answer in (
      not_reached c.args.goal c.args.board.now (c.has_lawful_move.ensures.0 c.if-not-has_lawful_move.false),
      c.in-Some.ensures.1,
      subst (λ k. n ≤ k) c.on-root.ensures.limit found.0,
      carried (λ (x : Goal) (b : PlainBoard). IsFewest x b n) r.goal c.args.goal r.board c.in-Some.next (passed c.args.board.now) c.on-root.ensures.goal c.on-root.ensures.position c.in-Some.ensures.0 found.1,
      carried (λ (x : Goal) (b : PlainBoard). ListsContinuations x b n c.in_ok-continuations_of-in-Some-Mate.field-0.items) r.goal c.args.goal r.board c.in-Some.next (passed c.args.board.now) c.on-root.ensures.goal c.on-root.ensures.position c.in-Some.ensures.0 c.in_ok-continuations_of-in-Some-Mate.ensures.moves,
    )

pub returns-in-None-clause-goes : goal.returns-in-None-clause-goes
returns-in-None-clause-goes g c = c.solve_by.ensures.goes

pub returns-in-Some-NoneWithin-clause-goes : goal.returns-in-Some-NoneWithin-clause-goes
returns-in-Some-NoneWithin-clause-goes g c = c.solve_by.ensures.goes

pub returns-then-not-has_lawful_move-clause-threats : goal.returns-then-not-has_lawful_move-clause-threats
returns-then-not-has_lawful_move-clause-threats g c = c.requires.over (λ m lawful. false≢true (sym c.if-not-has_lawful_move.true ∙ c.has_lawful_move.ensures.1 (m, lawful)))
