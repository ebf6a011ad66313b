-- The plain board, and which boards are positions.
use Rattle.std.specs.Prelude.{◌≡◌, ℕ, ◌+◌, ◌<◌, ◌≤◌, Bool, true, false, ◌&&◌, List, length, Option, Some, None, IfSome, slice_index_or, count_by}
use Rattle.board.specs.declared.game.Game.{Game}
use Rattle.board.specs.declared.game.Side.{Side}
use Rattle.board.specs.declared.game.Kind.{Kind}
use Rattle.board.specs.declared.game.Kind.TheVariants.{King, Pawn}
use Rattle.board.specs.declared.game.Unit.{Unit as Man}
use Rattle.board.specs.Games.{width_of, squares_of, most_units, is_same_side, IsPlayed}

-- a game, a side to move, and what stands on each square by number
pub record PlainBoard : Type 0 where
  pub game : Game
  pub mover : Side
  pub units : List (Option Man)

-- the board of these parts
abbrev pub board_of : Game → Side → List (Option Man) → PlainBoard
board_of g mover units = record { game = g; mover = mover; units = units }

-- what stands on a square
abbrev pub unit_on : PlainBoard → ℕ → Option Man
unit_on b n = slice_index_or b.units n None

-- a place holds a unit of this side
abbrev pub is_of_side : Side → Option Man → Bool
is_of_side side None = false
is_of_side side (Some u) = is_same_side side u.side

-- the kind is the king
abbrev pub is_king : Kind → Bool
is_king King = true
is_king _ = false

-- a place holds this side's king
abbrev pub is_king_of : Side → Option Man → Bool
is_king_of side None = false
is_king_of side (Some u) = is_king u.kind && is_same_side side u.side

-- neither the first rank nor the last
abbrev pub IsInnerRank : Game → ℕ → Type 0
IsInnerRank g n = (width_of g ≤ n) × (n + width_of g < squares_of g)

-- a unit may stand on square n
pub record MayStandOn (g : Game) (n : ℕ) (u : Man) : Type 0 where
  pub on_board : n < squares_of g
  pub played : IsPlayed g u.kind
  pub inner : u.kind ≡ Pawn → IsInnerRank g n

-- a side has one king, and no more units than the game gives it
pub record IsArmy (g : Game) (units : List (Option Man)) (side : Side) : Type 0 where
  pub king : count_by (is_king_of side) units ≡ 1
  pub room : count_by (is_of_side side) units ≤ most_units g

-- the board is one that the game allows, but for a king in check
pub record IsPosition (b : PlainBoard) : Type 0 where
  pub places : length b.units ≡ 36
  pub squares : (n : ℕ) → IfSome (unit_on b n) (MayStandOn b.game n)
  pub armies : (side : Side) → IsArmy b.game b.units side
