-- What is solved.
use Rattle.std.specs.Prelude.{◌≡◌, ℕ}
use Rattle.board.specs.Board.{PlainBoard}
use Rattle.rules.specs.declared.goal.Goal.{Goal}
use Rattle.problems.specs.declared.problem.Problem.{Problem}
use Rattle.problems.specs.Roots.{IsLimit}

-- the problem is whether the goal is forced from this position within so many plies, of 1 to 63
pub record IsProblemOf (b : PlainBoard) (goal : Goal) (limit : ℕ) (p : Problem) : Type 0 where
  pub position : p.position ≡ b
  pub plays_for : p.goal ≡ goal
  pub within : p.limit ≡ limit
  pub searched : IsLimit limit
