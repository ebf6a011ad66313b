-- The first moves that force the goal.
use Rattle.std.specs.Prelude.{ℕ, ◌<◌, ◌≤◌, ◌↔◌, List, AllPairs, Contains}
use Rattle.board.specs.Board.{PlainBoard}
use Rattle.rules.specs.declared.goal.Goal.{Goal}
use Rattle.rules.specs.Squares.{Ply}
use Rattle.rules.specs.Order.{IsPlyBefore}
use Rattle.problems.specs.Answer.{Wins}
use Rattle.problems.specs.declared.key.Key.{Key}

-- the move takes n plies, itself counted: it wins within them, and within no fewer
pub record Takes (goal : Goal) (b : PlainBoard) (n : ℕ) (m : Ply) : Type 0 where
  pub some : 0 < n
  pub wins : Wins goal b n m
  pub fewer : (k : ℕ) → 0 < k → k < n → Wins goal b k m → ⊥

-- the list has exactly the moves that win within the limit, each with the plies that it takes, in the order of the moves, so each once
pub record ListsKeys (goal : Goal) (b : PlainBoard) (limit : ℕ) (keys : List Key) : Type 0 where
  pub ordered : AllPairs (λ k l. IsPlyBefore b.game k.first l.first) keys
  pub exact : (k : Key) → Contains keys k ↔ ((k.plies ≤ limit) × Takes goal b k.plies k.first)
