use Rattle.std.proofs.Common.{w64}
use Rattle.std.proofs.lemmas.Nat.Bits.{bit_at-trailing_zeros}
use Rattle.cells.proofs.cell_sets.lowest.Goals as goal

pub returns-clause-there : goal.returns-clause-there
returns-clause-there c = (bit_at-trailing_zeros w64 c.args.set c.requires c.ranges.set.fits).1

pub returns-clause-least : goal.returns-clause-least
returns-clause-least c = (bit_at-trailing_zeros w64 c.args.set c.requires c.ranges.set.fits).2
