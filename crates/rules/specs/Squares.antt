-- Squares, and what stands on them.
use Rattle.std.specs.Prelude.{ℕ, ◌+◌, ◌*◌, ◌<◌, Option}
use Rattle.board.specs.declared.game.Game.{Game}
use Rattle.board.specs.declared.game.Kind.{Kind}
use Rattle.board.specs.declared.game.Unit.{Unit as Man}
use Rattle.board.specs.Games.{width_of}
use Rattle.board.specs.Board.{PlainBoard, unit_on}

-- a square, by its file and its rank, both counted from 0
pub record Place : Type 0 where
  pub file : ℕ
  pub rank : ℕ

-- the board has this square
pub record IsOnBoard (g : Game) (s : Place) : Type 0 where
  pub file : s.file < width_of g
  pub rank : s.rank < width_of g

-- a square's number: along the first rank from the a-file, then along the next
abbrev pub square_number : Game → Place → ℕ
square_number g s = s.file + width_of g * s.rank

-- what stands on a square
abbrev pub unit_at : PlainBoard → Place → Option Man
unit_at b s = unit_on b (square_number b.game s)

-- a move, as contracts see it
pub record Ply : Type 0 where
  pub from : Place
  pub to : Place
  pub promotion : Option Kind
