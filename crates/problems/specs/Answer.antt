-- The answer of a solve. The attacker is the side to move.
use Rattle.std.specs.Prelude.{◌≡◌, ℕ, ◌-◌, ◌<◌, ◌≤◌, ◌⊎◌}
use Rattle.board.specs.Board.{PlainBoard}
use Rattle.rules.specs.declared.goal.Goal.{Goal}
use Rattle.rules.specs.Squares.{Ply}
use Rattle.rules.specs.Moves.{IsMove}
use Rattle.rules.specs.Order.{IsPlyBefore}
use Rattle.rules.specs.Forces.{Forces}
use Rattle.problems.specs.declared.answer.Answer.{Answer}
use Rattle.problems.specs.declared.answer.Answer.TheVariants.{Mate, NoneWithin}

-- after the move the attacker forces the goal within the plies that are left of n
abbrev pub Wins : Goal → PlainBoard → ℕ → Ply → Type 0
Wins goal b n m = (q : PlainBoard) × IsMove b m q × Forces goal b.mover q (n - 1)

-- the attacker forces the goal within n plies, and within no fewer
pub record IsFewest (goal : Goal) (b : PlainBoard) (n : ℕ) : Type 0 where
  pub forced : Forces goal b.mover b n
  pub fewer : (k : ℕ) → k < n → Forces goal b.mover b k → ⊥

-- the move wins within n plies, and no move before it does
pub record IsLeastWin (goal : Goal) (b : PlainBoard) (n : ℕ) (m : Ply) : Type 0 where
  pub wins : Wins goal b n m
  pub least : (l : Ply) → Wins goal b n l → (l ≡ m) ⊎ IsPlyBefore b.game m l

-- the attacker forces the goal within no number of plies up to the limit
abbrev pub ForcesNothing : Goal → PlainBoard → ℕ → Type 0
ForcesNothing goal b limit = (n : ℕ) → n ≤ limit → Forces goal b.mover b n → ⊥

-- the fewest plies up to the limit with the least move that keeps them, or that there are none
abbrev pub IsAnswer : Goal → PlainBoard → ℕ → Answer → Type 0
IsAnswer goal b limit (Mate plies first) = (plies ≤ limit) × IsFewest goal b plies × IsLeastWin goal b plies first
IsAnswer goal b limit (NoneWithin within) = (within ≡ limit) × ForcesNothing goal b limit
