use Rattle.moves.proofs.Common.{◌≡◌, ◌⊎◌, ℕ, Ply, IsPseudoLegal, IsLawful, after, cell_of, place_in, Has}
use Rattle.moves.proofs.escapes.held.Given as given

-- of what was reached the cells that aren't left are held, or leave a lawful move
abbrev pub invariant-cells : given.invariant-cells
invariant-cells l = record {
  left : (i : ℕ) → Has l.left i → Has l.reached i;
  some : (i : ℕ) → Has l.held i → Has l.reached i;
  all : (m : Ply) → m.from ≡ place_in l.from → IsPseudoLegal l.board m l.unit → Has l.reached (cell_of m.to) → ((n : Ply) → IsLawful (after l.board m l.unit) n → ⊥) → Has l.left (cell_of m.to) ⊎ Has l.held (cell_of m.to);
}

-- each turn takes the lowest cell away
abbrev pub decreases-cells : given.decreases-cells
decreases-cells l = l.left
