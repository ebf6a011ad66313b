use Rattle.moves.proofs.Common.{◌≡◌, ◌⊎◌, ℕ, Ply, cell_of, place_in, Has, IsTarget, IsLawful, IsNamed}
use Rattle.moves.proofs.safe.sifted.Given as given

-- the unit reaches what is left, moves lawfully to what is safe, and to no other cell
abbrev pub invariant-cells : given.invariant-cells
invariant-cells l = record {
  left : (i : ℕ) → Has l.left i → IsTarget l.board l.unit (place_in l.from) i;
  cells : (i : ℕ) → Has l.safe i → IsTarget l.board l.unit (place_in l.from) i;
  lawful : (i : ℕ) (m : Ply) → Has l.safe i → m.from ≡ place_in l.from → m.to ≡ place_in i → IsNamed l.board.game l.unit m → IsLawful l.board m;
  all : (m : Ply) → m.from ≡ place_in l.from → IsLawful l.board m → Has l.left (cell_of m.to) ⊎ Has l.safe (cell_of m.to);
}

-- each turn takes the lowest cell away
abbrev pub decreases-cells : given.decreases-cells
decreases-cells l = l.left
