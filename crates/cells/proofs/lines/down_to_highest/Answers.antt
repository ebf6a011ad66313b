use Rattle.std.proofs.Common.{arith}
use Rattle.cells.proofs.Masks.{high_small, down_to}
use Rattle.cells.proofs.lines.down_to_highest.Goals as goal

pub overflow_sub-result : goal.overflow_sub-result
overflow_sub-result c = let s = high_small c.args.stops c.ranges.stops.fits in omega (arith, s)

pub returns : goal.returns
returns c = down_to c.args.stops c.ranges.stops.fits
