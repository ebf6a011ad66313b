use Rattle.searcher.proofs.Halts.{err_halts}
use Rattle.solutions.proofs.varying.variation_in.Goals as goal

pub returns-in_err-moves-clause-goes : goal.returns-in_err-moves-clause-goes
returns-in_err-moves-clause-goes g c = c.continuations_of.ensures.goes

pub returns-in_err-moves-clause-halt : goal.returns-in_err-moves-clause-halt
returns-in_err-moves-clause-halt g c = err_halts c.from_residual.result _ _ c.from_residual.ensures.1 c.in_err-moves.ensures.halt

pub returns-in_err-line-clause-goes : goal.returns-in_err-line-clause-goes
returns-in_err-line-clause-goes g c = g.met.D.Decider.goes_on _ _ _ c.continuations_of.ensures.goes c.best_line.ensures.goes

pub returns-in_err-line-clause-halt : goal.returns-in_err-line-clause-halt
returns-in_err-line-clause-halt g c = err_halts c.from_residual-in_err-line.result _ _ c.from_residual-in_err-line.ensures.1 c.in_err-line.ensures.halt

pub returns-clause-goes : goal.returns-clause-goes
returns-clause-goes g c = g.met.D.Decider.goes_on _ _ _ c.continuations_of.ensures.goes c.best_line.ensures.goes

pub returns-clause-tells : goal.returns-clause-tells
returns-clause-tells g c = record { plies = c.requires.fewest; moves = c.in_ok-moves.ensures.moves; line = c.in_ok-line.ensures.line }
