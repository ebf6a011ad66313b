-- The cells to which a unit moves lawfully, and how many moves that makes.
use Rattle.std.specs.Prelude.{◌≡◌, ℕ, ◌+◌, ◌*◌, ◌⊎◌, ◌↔◌, IsSome, IfSome, List, length}
use Rattle.board.specs.declared.game.Game.{Game}
use Rattle.board.specs.declared.game.Game.TheVariants.{LosAlamos, Gardner}
use Rattle.board.specs.declared.game.Unit.{Unit as Man}
use Rattle.board.specs.declared.game.Side.{Side}
use Rattle.board.specs.Games.{other_side}
use Rattle.board.specs.Board.{PlainBoard}
use Rattle.rules.specs.Squares.{Place, Ply, unit_at}
use Rattle.rules.specs.Reach.{IsAttacked}
use Rattle.rules.specs.Moves.{Promotes, IsPromotion, IsSomeKing, IsLawful}
use Rattle.rules.specs.Listing.{ListsBelow}
use Rattle.cells.specs.Mailbox.{cell_of, place_in}
use Rattle.cells.specs.CellSets.{Has}
use Rattle.moves.specs.Targets.{IsTarget}

-- the move names a promotion where it must, and one of the game's
pub record IsNamed (g : Game) (u : Man) (m : Ply) : Type 0 where
  pub named : IsSome m.promotion ↔ Promotes g u m.to
  pub allowed : IfSome m.promotion (IsPromotion g)

-- the set has the cells to which the unit on s moves lawfully, whatever it becomes there
pub record HasSafe (b : PlainBoard) (u : Man) (s : Place) (set : ℕ) : Type 0 where
  pub cells : (i : ℕ) → Has set i → IsTarget b u s i
  pub lawful : (i : ℕ) (m : Ply) → Has set i → m.from ≡ s → m.to ≡ place_in i → IsNamed b.game u m → IsLawful b m
  pub all : (m : Ply) → m.from ≡ s → IsLawful b m → Has set (cell_of m.to)

-- a king of the side would be safe on the square, and takes none there
pub record IsCalm (b : PlainBoard) (s : Place) (side : Side) : Type 0 where
  pub no_king : IsSomeKing (unit_at b s) → ⊥
  pub safe : IsAttacked b s (other_side side) → ⊥

-- how many kinds a pawn may become
abbrev pub promotions_of : Game → ℕ
promotions_of LosAlamos = 3
promotions_of Gardner = 4

-- a unit has n moves to the square: one, or one for each kind that a pawn may become there
abbrev pub IsEach : Game → Man → Place → ℕ → Type 0
IsEach g u t n = (Promotes g u t × (n ≡ promotions_of g)) ⊎ ((Promotes g u t → ⊥) × (n ≡ 1))

-- from the square of this number there are k lawful moves: so many more are in the list
abbrev pub CountsFrom : PlainBoard → ℕ → ℕ → Type 0
CountsFrom b n k = (moves : List Ply) → ListsBelow b (n * 36 * 5) moves → (more : List Ply) × ListsBelow b ((n + 1) * 36 * 5) more × (length more ≡ length moves + k)
