use Rattle.moves.proofs.Shown.{HasMoved-cells}
use Rattle.moves.proofs.sets.moved_cells.Goals as goal

pub returns : goal.returns
returns c = HasMoved-cells c.args.set c.args.from c.args.to c.args.class c.args.placed c.is_of.result c.with_cell.result c.ranges.set.fits c.requires.from c.requires.to c.is_of.ensures c.with_cell.ensures
