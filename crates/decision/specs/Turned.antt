-- Questions of boards that are turned about.
use Rattle.std.specs.Prelude.{ℕ, ◌↔◌, false}
use Rattle.board.specs.Board.{PlainBoard}
use Rattle.laws.specs.Turnings.{Turning as Way, IsTurned, MayTurn}
use Rattle.decision.specs.declared.turning.Turning.{Turning}
use Rattle.problems.specs.declared.question.Question.{Question}
use Rattle.problems.specs.Questions.{IsForced}

-- the turning, with the sides as they are
abbrev pub turn_of : Turning → Way
turn_of t = record { left_right = t.left_right; top_bottom = t.top_bottom; diagonal = t.diagonal; sides = false }

-- the other board is this one turned so, and this one may be
pub record IsTurnedWell (t : Turning) (b c : PlainBoard) : Type 0 where
  pub may : MayTurn (turn_of t) b
  pub turned : IsTurned (turn_of t) b c

-- the two questions have the same answer for each number of plies
abbrev pub HaveOneAnswer : Question → Question → Type 0
HaveOneAnswer q other = (n : ℕ) → IsForced q n ↔ IsForced other n
