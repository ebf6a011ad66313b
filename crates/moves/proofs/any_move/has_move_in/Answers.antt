use Rattle.moves.proofs.Common.{arith, place_in, not-zero}
use Rattle.moves.proofs.SafeCells.{some_safe}
use Rattle.moves.proofs.any_move.has_move_in.Goals as goal

pub returns-in-Some-free_cells-clause-found : goal.returns-in-Some-free_cells-clause-found
returns-in-Some-free_cells-clause-found c = λ e.
    let free = c.in-Some-free_cells.free in
    some_safe c.args.board.now c.in-Some.unit (place_in c.args.cell) free c.in-Some-free_cells.ensures (omega arith) ((not-zero free).0 e)
