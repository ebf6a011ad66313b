-- A board with a border round it: eight cells a rank, so that a step off the board comes to a cell of the border.
use Rattle.std.specs.Prelude.{◌≡◌, ℕ, ℤ, pos, ◌+ℤ◌, ◌*ℤ◌, ◌+◌, ◌-◌, ◌*◌, ◌/◌, ◌%◌, ◌≤◌}
use Rattle.board.specs.declared.game.Game.{Game}
use Rattle.rules.specs.Squares.{Place, IsOnBoard}

-- the cell of a square: after two ranks of border, eight cells a rank
abbrev pub cell_of : Place → ℕ
cell_of s = 17 + 8 * s.rank + s.file

-- the square of a cell
abbrev pub place_in : ℕ → Place
place_in i = record { file = (i - 17) % 8; rank = (i - 17) / 8 }

-- the cell j is dx files to the right of i and dy ranks up
abbrev pub IsAway : ℤ → ℤ → ℕ → ℕ → Type 0
IsAway dx dy i j = pos j ≡ (pos i +ℤ dx) +ℤ (pos 8 *ℤ dy)

-- the cell is a square of the board
pub record IsCell (g : Game) (i : ℕ) : Type 0 where
  pub above : 17 ≤ i
  pub on_board : IsOnBoard g (place_in i)
