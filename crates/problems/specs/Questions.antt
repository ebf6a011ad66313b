-- Questions: whether the attacker forces the goal from a position.
use Rattle.std.specs.Prelude.{◌≡◌, ℕ}
use Rattle.board.specs.declared.game.Side.{Side}
use Rattle.board.specs.Board.{PlainBoard}
use Rattle.rules.specs.declared.goal.Goal.{Goal}
use Rattle.rules.specs.Squares.{Ply}
use Rattle.rules.specs.Moves.{IsMove}
use Rattle.rules.specs.Forces.{Forces}
use Rattle.problems.specs.declared.question.Question.{Question}

-- whether the attacker forces the goal from the position
abbrev pub question : PlainBoard → Side → Goal → Question
question b attacker goal = record { position = b; attacker = attacker; goal = goal }

-- the attacker forces the goal within n plies
abbrev pub IsForced : Question → ℕ → Type 0
IsForced q n = Forces q.goal q.attacker q.position n

-- the move leads to the other question: the same, of the position after it
abbrev pub LeadsTo : Question → Ply → Question → Type 0
LeadsTo q m other = (b : PlainBoard) × IsMove q.position m b × (other ≡ question b q.attacker q.goal)
