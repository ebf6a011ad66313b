-- Boards with pawns.
use Rattle.std.specs.Prelude.{◌≡◌, Some}
use Rattle.board.specs.declared.game.Kind.TheVariants.{Pawn}
use Rattle.board.specs.declared.game.Unit.{Unit as Man}
use Rattle.board.specs.Board.{PlainBoard}
use Rattle.rules.specs.Squares.{Place, IsOnBoard, unit_at}

-- a square has a pawn
abbrev pub HasPawn : PlainBoard → Type 0
HasPawn b = (s : Place) × (u : Man) × IsOnBoard b.game s × (unit_at b s ≡ Some u) × (u.kind ≡ Pawn)
