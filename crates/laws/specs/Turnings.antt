-- Boards turned about: which square comes where, and what stands there then.
use Rattle.std.specs.Prelude.{◌≡◌, ℕ, ◌+◌, ◌-◌, ◌≤◌, ◌⊎◌, Bool, true, false, Option, Some, None, length}
use Rattle.board.specs.declared.game.Game.{Game}
use Rattle.board.specs.declared.game.Side.{Side}
use Rattle.board.specs.declared.game.Kind.TheVariants.{Pawn}
use Rattle.board.specs.declared.game.Unit.{Unit as Man}
use Rattle.board.specs.Games.{width_of, squares_of, other_side}
use Rattle.board.specs.Board.{PlainBoard, unit_on}
use Rattle.rules.specs.Squares.{Place, Ply, IsOnBoard, unit_at}

-- a way to turn a board about: whether left and right are exchanged, top and bottom, then files and ranks, and White and Black
pub record Turning : Type 0 where
  pub left_right : Bool
  pub top_bottom : Bool
  pub diagonal : Bool
  pub sides : Bool

-- a file or a rank, or if it is mirrored, the one as far from the other edge
abbrev pub mirrored : Bool → ℕ → ℕ → ℕ
mirrored false width n = n
mirrored true width n = width - (n + 1)

-- the square on this file and this rank, or over the diagonal, on the file of this rank and the rank of this file
abbrev pub place_over : Bool → ℕ → ℕ → Place
place_over false file rank = record { file = file; rank = rank }
place_over true file rank = record { file = rank; rank = file }

-- where a square comes to lie: mirrored, and then over the diagonal
abbrev pub turned_place : Game → Turning → Place → Place
turned_place g t s = place_over t.diagonal (mirrored t.left_right (width_of g) s.file) (mirrored t.top_bottom (width_of g) s.rank)

-- the side, or if the sides are exchanged, its opponent
abbrev pub exchanged : Bool → Side → Side
exchanged false side = side
exchanged true side = other_side side

-- what a side becomes
abbrev pub turned_side : Turning → Side → Side
turned_side t side = exchanged t.sides side

-- what a unit becomes: its kind stays
abbrev pub turned_unit : Turning → Man → Man
turned_unit t u = record { side = turned_side t u.side; kind = u.kind }

-- what stands on a square, a unit or none, becomes this
abbrev pub turned_units : Turning → Option Man → Option Man
turned_units t None = None
turned_units t (Some u) = Some (turned_unit t u)

-- what a move becomes: its two squares are turned, and the promotion stays
abbrev pub turned_move : Game → Turning → Ply → Ply
turned_move g t m = record { from = turned_place g t m.from; to = turned_place g t m.to; promotion = m.promotion }

-- c is the board b turned about: what stood on a square stands where that square comes to lie
pub record IsTurned (t : Turning) (b c : PlainBoard) : Type 0 where
  pub game : c.game ≡ b.game
  pub mover : c.mover ≡ turned_side t b.mover
  pub places : length b.units ≡ 36
  pub turned_places : length c.units ≡ 36
  pub units : (s : Place) → IsOnBoard b.game s → unit_at c (turned_place b.game t s) ≡ turned_units t (unit_at b s)
  pub past : (n : ℕ) → squares_of b.game ≤ n → unit_on c n ≡ turned_units t (unit_on b n)

-- what is ahead of a side stays ahead of what it becomes: files stay files, and top and bottom are exchanged just where the sides are
pub record KeepsAhead (t : Turning) : Type 0 where
  pub straight : t.diagonal ≡ false
  pub ahead : t.top_bottom ≡ t.sides

-- no square has a pawn
abbrev pub HasNoPawn : PlainBoard → Type 0
HasNoPawn b = (s : Place) (u : Man) → IsOnBoard b.game s → unit_at b s ≡ Some u → u.kind ≡ Pawn → ⊥

-- the board may be turned so: it has no pawn, or pawns go ahead as before
abbrev pub MayTurn : Turning → PlainBoard → Type 0
MayTurn t b = KeepsAhead t ⊎ HasNoPawn b
