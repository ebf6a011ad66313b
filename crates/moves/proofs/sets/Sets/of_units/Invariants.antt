use Rattle.moves.proofs.Common.{board_of}
use Rattle.moves.proofs.Shown.{ShownBelow}
use Rattle.moves.proofs.sets.Sets.of_units.Given as goal

-- each set has its units of the squares so far
abbrev pub invariant-loop-number : goal.invariant-loop-number
invariant-loop-number l = ShownBelow (board_of l.game l.fn.mover l.units) l.sets l.number
