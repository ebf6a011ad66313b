use Rattle.cells.proofs.Masks.{Has-single}
use Rattle.cells.proofs.cell_sets.single.Goals as goal

pub returns : goal.returns
returns c = Has-single c.args.cell c.requires
