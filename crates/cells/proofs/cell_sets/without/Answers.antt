use Rattle.std.proofs.Common.{w64}
use Rattle.std.proofs.lemmas.Nat.Bits.{bit_at_clear_same, bit_at_clear_other}
use Rattle.cells.proofs.Masks.{less_cleared}
use Rattle.cells.proofs.cell_sets.without.Goals as goal

pub returns : goal.returns
returns c = record {
  less = less_cleared c.args.set c.args.cell c.requires.within c.requires.there;
  gone = bit_at_clear_same w64 c.args.set c.args.cell c.requires.within;
  others = λ i small other. bit_at_clear_other w64 c.args.set c.args.cell c.requires.within i small other;
}
