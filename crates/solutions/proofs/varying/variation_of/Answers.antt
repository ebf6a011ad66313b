use Rattle.std.proofs.Common.{arith}
use Rattle.solutions.proofs.Common.{same_side-self, err_halts, some_ply}
use Rattle.solutions.proofs.Forcing.{mate_found, nothing_found}
use Rattle.solutions.proofs.varying.variation_of.Goals as goal

pub variation_in-requires-clause-plies : goal.variation_in-requires-clause-plies
variation_in-requires-clause-plies g c =
    let r = c.args.root.now in
    let most = r.limited in
    let found = mate_found r.goal r.board r.limit c.in-Some-Mate.field-0 c.in-Some-Mate.plies c.in-Some-Mate.field-0-1 c.in-Some-Mate.field-0-is c.in-Some-Mate.ensures.answer in
    (some_ply r.goal r.board.mover r.board c.in-Some-Mate.plies (same_side-self r.board.mover) found.1.forced, omega (arith, found.0))

pub variation_in-requires-clause-fewest : goal.variation_in-requires-clause-fewest
variation_in-requires-clause-fewest g c = let r = c.args.root.now in
    (mate_found r.goal r.board r.limit c.in-Some-Mate.field-0 c.in-Some-Mate.plies c.in-Some-Mate.field-0-1 c.in-Some-Mate.field-0-is c.in-Some-Mate.ensures.answer).1

pub returns-in_err-variation_in-in-Some-Mate-clause-goes : goal.returns-in_err-variation_in-in-Some-Mate-clause-goes
returns-in_err-variation_in-in-Some-Mate-clause-goes g c = g.met.D.Decider.goes_on _ _ _ c.solve_by.ensures.goes c.variation_in.ensures.goes

pub returns-in_err-variation_in-in-Some-Mate-clause-halt : goal.returns-in_err-variation_in-in-Some-Mate-clause-halt
returns-in_err-variation_in-in-Some-Mate-clause-halt g c = err_halts c.from_residual.result _ _ c.from_residual.ensures.1 c.in_err-variation_in-in-Some-Mate.ensures.halt

pub returns-in-Some-NoneWithin-clause-found : goal.returns-in-Some-NoneWithin-clause-found
returns-in-Some-NoneWithin-clause-found g c = let r = c.args.root.now in
    nothing_found r.goal r.board r.limit c.in-Some-NoneWithin.field-0 c.in-Some-NoneWithin.field-0-0 c.in-Some-NoneWithin.field-0-is c.in-Some-NoneWithin.ensures.answer

pub returns-in_ok-variation_in-in-Some-Mate-clause-goes : goal.returns-in_ok-variation_in-in-Some-Mate-clause-goes
returns-in_ok-variation_in-in-Some-Mate-clause-goes g c = g.met.D.Decider.goes_on _ _ _ c.solve_by.ensures.goes c.variation_in.ensures.goes

pub returns-in_ok-variation_in-in-Some-Mate-clause-found : goal.returns-in_ok-variation_in-in-Some-Mate-clause-found
returns-in_ok-variation_in-in-Some-Mate-clause-found g c =
    let r = c.args.root.now in
    let found = mate_found r.goal r.board r.limit c.in-Some-Mate.field-0 c.in-Some-Mate.plies c.in-Some-Mate.field-0-1 c.in-Some-Mate.field-0-is c.in-Some-Mate.ensures.answer in
    let plies = c.in_ok-variation_in-in-Some-Mate.ensures.plies in
    (c.in_ok-variation_in-in-Some-Mate.ensures.reply, omega (arith, plies, found.0), c.in_ok-variation_in-in-Some-Mate.ensures.tells)
