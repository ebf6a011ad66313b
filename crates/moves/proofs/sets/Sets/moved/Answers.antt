use Rattle.moves.proofs.Classes.{by_class}
use Rattle.moves.proofs.sets.Sets.moved.Goals as goal

pub returns : goal.returns
returns c = by_class _ c.moved_cells.ensures c.moved_cells-2.ensures c.moved_cells-3.ensures c.moved_cells-4.ensures c.moved_cells-5.ensures c.moved_cells-6.ensures c.moved_cells-7.ensures
