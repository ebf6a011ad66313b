use Rattle.moves.proofs.Common.{◌⊎◌, ℕ, Has, IsSwept}
use Rattle.moves.proofs.attacked.swept.Given as given

-- what units of cells that aren't left would take on is in the set, and nothing else
abbrev pub invariant-units : given.invariant-units
invariant-units l = record {
  left : (i : ℕ) → Has l.left i → Has l.units i;
  set : (j : ℕ) → Has l.set j → IsSwept l.board l.side l.kind j;
  all : (j : ℕ) (w : IsSwept l.board l.side l.kind j) → Has l.left w.from ⊎ Has l.set j;
}

-- each turn takes the lowest cell away
abbrev pub decreases-units : given.decreases-units
decreases-units l = l.left
