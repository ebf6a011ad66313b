-- The list of lawful moves as it grows: what `lawful` keeps inside, and no caller sees.
use Rattle.std.specs.Prelude.{ℕ, ◌+◌, ◌*◌, ◌<◌, ◌≤◌, List, All, AllPairs, Contains, length, take}
use Rattle.std.specs.List.{count_by}
use Rattle.board.specs.declared.game.Game.{Game}
use Rattle.board.specs.Board.{PlainBoard, is_of_side}
use Rattle.rules.specs.Squares.{Ply, square_number}
use Rattle.rules.specs.Moves.{IsLawful}
use Rattle.rules.specs.Order.{promotion_number}

-- the order of moves by one number
abbrev pub ply_number : Game → Ply → ℕ
ply_number g m = (square_number g m.from * 36 + square_number g m.to) * 5 + promotion_number m.promotion

-- the list has exactly the lawful moves whose number is below n, by their numbers
pub record ListsBelow (b : PlainBoard) (n : ℕ) (moves : List Ply) : Type 0 where
  pub lawful : All (IsLawful b) moves
  pub below : All (λ m. ply_number b.game m < n) moves
  pub complete : (m : Ply) → ply_number b.game m < n → IsLawful b m → Contains moves m
  pub ordered : AllPairs (λ a c. ply_number b.game a < ply_number b.game c) moves

-- the list has the lawful moves from the squares numbered below n, of each own unit 36 at most
pub record ListsFrom (b : PlainBoard) (n : ℕ) (moves : List Ply) : Type 0 where
  pub lists : ListsBelow b (n * 36 * 5) moves
  pub few : length moves ≤ 36 * count_by (is_of_side b.mover) (take n b.units)
