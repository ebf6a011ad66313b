-- Mates that changed: how the set play meets a reply otherwise than the play behind a key does.
use Rattle.std.specs.Prelude.{◌≡◌, ℕ, ◌-◌, ◌≤◌, List, All}
use Rattle.board.specs.Board.{PlainBoard}
use Rattle.rules.specs.declared.goal.Goal.{Goal}
use Rattle.rules.specs.Squares.{Ply, unit_at}
use Rattle.rules.specs.Reach.{IsSound}
use Rattle.rules.specs.Moves.{IsMove}
use Rattle.problems.specs.Answer.{IsFewest, IsLeastWin}
use Rattle.solutions.specs.Solutions.{passed}

-- two moves, each on its board, are alike to a reader: the same unit goes to the same square and becomes the same, wherever it came from
abbrev pub IsAlike : PlainBoard → Ply → PlainBoard → Ply → Type 0
IsAlike b m c s = (unit_at b m.from ≡ unit_at c s.from) × (m.to ≡ s.to) × (m.promotion ≡ s.promotion)

-- where the keys take n plies: after a pass the reply leads to c, where the goal is forced within n - 2 plies, and s is the first continuation
pub record IsSetMove (goal : Goal) (b : PlainBoard) (n : ℕ) (r : Ply) (c : PlainBoard) (s : Ply) : Type 0 where
  pub sound : IsSound (passed b)
  pub reply : IsMove (passed b) r c
  pub plies : ℕ
  pub few : plies ≤ n - 2
  pub fewest : IsFewest goal c plies
  pub first : IsLeastWin goal c plies s

-- the continuation of the set play, on its board c, is alike to none of these, the actual ones on the board p: the mate changed
abbrev pub IsChanged : PlainBoard → List Ply → PlainBoard → Ply → Type 0
IsChanged p moves c s = All (λ m. IsAlike p m c s → ⊥) moves
