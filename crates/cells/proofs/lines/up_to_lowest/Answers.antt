use Rattle.cells.proofs.Masks.{up_to}
use Rattle.cells.proofs.lines.up_to_lowest.Goals as goal

pub returns : goal.returns
returns c = up_to c.args.stops c.ranges.stops.fits
