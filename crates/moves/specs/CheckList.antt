-- Lists of the moves that give check.
use Rattle.std.specs.Prelude.{◌↔◌, List, AllPairs, Contains}
use Rattle.board.specs.Board.{PlainBoard}
use Rattle.rules.specs.Squares.{Ply}
use Rattle.rules.specs.Moves.{GivesCheck}
use Rattle.rules.specs.Order.{IsPlyBefore}

-- the list has exactly the lawful moves that give check, in order, so each once
pub record ListsChecks (b : PlainBoard) (moves : List Ply) : Type 0 where
  pub ordered : AllPairs (IsPlyBefore b.game) moves
  pub exact : (m : Ply) → Contains moves m ↔ GivesCheck b m
