-- How many lawful moves a board has.
use Rattle.std.specs.Prelude.{◌≡◌, ℕ, List, length}
use Rattle.board.specs.Board.{PlainBoard}
use Rattle.rules.specs.Squares.{Ply}
use Rattle.rules.specs.Order.{ListsLawful}

-- the board has n lawful moves: that many are in the list of them
pub record CountsLawful (b : PlainBoard) (n : ℕ) : Type 0 where
  pub moves : List Ply
  pub lists : ListsLawful b moves
  pub count : n ≡ length moves
