-- Ways along ranks, files and diagonals, and the cells that lie each way.
use Rattle.std.specs.Prelude.{◌≡◌, ◌⊎◌, ℕ, ℤ, pos, neg_ℤ, Bool, true, false, None, List, [], slice_index_or}
use Rattle.board.specs.declared.game.Game.{Game}
use Rattle.board.specs.declared.game.Game.TheVariants.{LosAlamos, Gardner}
use Rattle.board.specs.declared.game.Side.{Side}
use Rattle.board.specs.declared.game.Side.TheVariants.{White, Black}
use Rattle.board.specs.Board.{PlainBoard}
use Rattle.cells.specs.declared.tables.Way.{Way}
use Rattle.cells.specs.declared.tables.Way.TheVariants.{North, South, East, West, NorthEast, SouthWest, NorthWest, SouthEast}
use Rattle.rules.specs.Squares.{unit_at}
use Rattle.cells.specs.Mailbox.{place_in, IsAway, IsCell}

-- how many files a way goes to the right
abbrev pub files_of : Way → ℤ
files_of North = pos 0
files_of South = pos 0
files_of East = pos 1
files_of West = neg_ℤ (pos 1)
files_of NorthEast = pos 1
files_of SouthWest = neg_ℤ (pos 1)
files_of NorthWest = neg_ℤ (pos 1)
files_of SouthEast = pos 1

-- how many ranks it goes up
abbrev pub ranks_of : Way → ℤ
ranks_of North = pos 1
ranks_of South = neg_ℤ (pos 1)
ranks_of East = pos 0
ranks_of West = pos 0
ranks_of NorthEast = pos 1
ranks_of SouthWest = neg_ℤ (pos 1)
ranks_of NorthWest = pos 1
ranks_of SouthEast = neg_ℤ (pos 1)

-- where a side's pawns go
abbrev pub ahead_way : Side → Way
ahead_way White = North
ahead_way Black = South

-- the next cell that way
abbrev pub IsNext : Way → ℕ → ℕ → Type 0
IsNext way i j = IsAway (files_of way) (ranks_of way) i j

-- j lies that way from i on the board
pub data IsOnRay (g : Game) (way : Way) : ℕ → ℕ → Type 0 where
  next : {i j : ℕ} → IsNext way i j → IsCell g j → IsOnRay g way i j
  beyond : {i k j : ℕ} → IsNext way i k → IsCell g k → IsOnRay g way k j → IsOnRay g way i j

-- j lies on the same rank or file as i
abbrev pub IsOnStraight : Game → ℕ → ℕ → Type 0
IsOnStraight g i j = IsOnRay g North i j ⊎ (IsOnRay g South i j ⊎ (IsOnRay g East i j ⊎ IsOnRay g West i j))

-- or on the same diagonal
abbrev pub IsOnSlanted : Game → ℕ → ℕ → Type 0
IsOnSlanted g i j = IsOnRay g NorthEast i j ⊎ (IsOnRay g SouthWest i j ⊎ (IsOnRay g NorthWest i j ⊎ IsOnRay g SouthEast i j))

-- a rider comes that way from i to j, over empty squares
pub data Rides (b : PlainBoard) (way : Way) : ℕ → ℕ → Type 0 where
  once : {i j : ℕ} → IsNext way i j → IsCell b.game j → Rides b way i j
  again : {i k j : ℕ} → IsNext way i k → IsCell b.game k → unit_at b (place_in k) ≡ None → Rides b way k j → Rides b way i j

-- the ways that go to a higher cell
abbrev pub rises : Way → Bool
rises North = true
rises East = true
rises NorthEast = true
rises NorthWest = true
rises _ = false

-- where the tables have a game's board
abbrev pub board_number : Game → ℕ
board_number LosAlamos = 0
board_number Gardner = 1

-- the set of a cell in a table
abbrev pub set_in : List (List ℕ) → Game → ℕ → ℕ
set_in table g i = slice_index_or (slice_index_or table (board_number g) []) i 0
