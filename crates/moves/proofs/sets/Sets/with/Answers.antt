use Rattle.moves.proofs.Classes.{by_class}
use Rattle.moves.proofs.sets.Sets.with.Goals as goal

pub returns : goal.returns
returns c = by_class _ c.added_cells.ensures c.added_cells-2.ensures c.added_cells-3.ensures c.added_cells-4.ensures c.added_cells-5.ensures c.added_cells-6.ensures c.added_cells-7.ensures
