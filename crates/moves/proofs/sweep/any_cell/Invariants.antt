use Rattle.moves.proofs.Common.{◌⊎◌, ℕ, false, Has}
use Rattle.moves.proofs.sweep.any_cell.Given as given

-- the cells of the set that aren't left didn't pass
abbrev pub invariant-cells : given.invariant-cells
invariant-cells g l = record {
  left : (i : ℕ) → Has l.left i → Has l.set i;
  all : (i : ℕ) → Has l.set i → Has l.left i ⊎ given.F-post g l.test i false;
}

-- each turn takes the lowest cell away
abbrev pub decreases-cells : given.decreases-cells
decreases-cells g l = l.left
