-- The order of moves, and lists of the lawful ones.
use Rattle.std.specs.Prelude.{◌≡◌, ℕ, ◌<◌, ◌⊎◌, ◌↔◌, Option, Some, None, List, AllPairs, Contains}
use Rattle.board.specs.declared.game.Game.{Game}
use Rattle.board.specs.declared.game.Kind.{Kind}
use Rattle.board.specs.declared.game.Kind.TheVariants.{King, Queen, Rook, Bishop, Knight, Pawn}
use Rattle.board.specs.Board.{PlainBoard}
use Rattle.rules.specs.Squares.{Ply, square_number}
use Rattle.rules.specs.Moves.{IsLawful}

-- the order of promotions: none, q, r, b, n
abbrev pub promotion_number : Option Kind → ℕ
promotion_number None = 0
promotion_number (Some Queen) = 1
promotion_number (Some Rook) = 2
promotion_number (Some Bishop) = 3
promotion_number (Some Knight) = 4
promotion_number (Some King) = 5
promotion_number (Some Pawn) = 6

-- the order of moves: by from-square, then by to-square, then by promotion
abbrev pub IsPlyBefore : Game → Ply → Ply → Type 0
IsPlyBefore g a b =
    (square_number g a.from < square_number g b.from)
    ⊎ ((square_number g a.from ≡ square_number g b.from) × (square_number g a.to < square_number g b.to))
    ⊎ ((square_number g a.from ≡ square_number g b.from) × (square_number g a.to ≡ square_number g b.to)
    × (promotion_number a.promotion < promotion_number b.promotion))

-- the list has exactly the lawful moves, in order, so each once
pub record ListsLawful (b : PlainBoard) (moves : List Ply) : Type 0 where
  pub ordered : AllPairs (IsPlyBefore b.game) moves
  pub exact : (m : Ply) → Contains moves m ↔ IsLawful b m
