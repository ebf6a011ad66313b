use Rattle.cells.proofs.Masks.{Has-minus}
use Rattle.cells.proofs.cell_sets.except.Goals as goal

pub returns : goal.returns
returns c = λ i. Has-minus c.args.set c.args.other i c.ranges.set.fits c.ranges.other.fits
