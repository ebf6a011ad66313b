use Rattle.decision.specs.Turned.{turn_of}
use Rattle.decision.proofs.Turns.{IsTurnedUpTo}
use Rattle.decision.proofs.turning.turned_units.Given as goal

-- the units of the squares so far stand where their squares come to lie
abbrev pub invariant-loop-number : goal.invariant-loop-number
invariant-loop-number l = IsTurnedUpTo (turn_of l.turning) l.board l.units l.number
