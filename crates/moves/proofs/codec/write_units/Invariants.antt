use Rattle.moves.proofs.Packing.{IsFilled}
use Rattle.moves.proofs.codec.write_units.Given as goal

-- the squares so far are filled
abbrev pub invariant-loop-square : goal.invariant-loop-square
invariant-loop-square l = IsFilled l.game l.flags l.units l.words l.square
