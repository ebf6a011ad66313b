-- The squares from one to the edge of the board.
use Rattle.std.specs.Prelude.{ℕ, ◌-◌, ℤ, pos, negsuc, zero, suc, List, [], ◌∷◌}
use Rattle.board.specs.declared.game.Game.{Game}
use Rattle.rules.specs.Squares.{Place, IsOnBoard, square_number}
use Rattle.rules.specs.Reach.{IsShift}

-- the numbers of the squares that dx files and dy ranks lead to, repeated up to the edge
pub data IsRay (g : Game) (dx dy : ℤ) : Place → List ℕ → Type 0 where
  edge : {s : Place} → ((t : Place) → IsOnBoard g t → IsShift dx dy s t → ⊥) → IsRay g dx dy s []
  onward : {s t : Place} {rest : List ℕ} → IsOnBoard g t → IsShift dx dy s t → IsRay g dx dy t rest → IsRay g dx dy s (square_number g t ∷ rest)

-- how many squares there are before the edge, at most
abbrev pub left_along : ℤ → ℕ → ℕ → ℕ
left_along (pos zero) n other = other
left_along (pos (suc k)) n other = 5 - n
left_along (negsuc k) n other = n

abbrev pub squares_left : ℤ → ℤ → Place → ℕ
squares_left dx dy s = left_along dx s.file (left_along dy s.rank 0)
