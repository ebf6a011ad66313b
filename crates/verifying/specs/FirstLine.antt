-- The first line of a certificate, which is its answer.
--     answer = ('mate' | 'goal') ' ' plies ' ' move | 'none within ' plies
use Rattle.std.specs.Prelude.{ℕ, ◌≡◌, ◌<◌, ◌≤◌, ⊤, List, ◌∷◌, ◌++◌, codes}
use Rattle.std.specs.Fmt.{decimal}
use Rattle.rules.specs.declared.goal.Goal.{Goal}
use Rattle.rules.specs.declared.goal.Goal.TheVariants as goal
use Rattle.rules.specs.Moves.{IsPly}
use Rattle.rules.specs.MoveText.{move_text}
use Rattle.problems.specs.declared.answer.Answer.{Answer}
use Rattle.problems.specs.declared.answer.Answer.TheVariants.{Mate, NoneWithin}
use Rattle.certificates.specs.Answers.{IsOdd}

-- what stands before the plies of a mate, by the goal
abbrev pub goal_text : Goal → List ℕ
goal_text goal.Mate = codes "mate "
goal_text goal.MateOrStale = codes "goal "

-- the answer as its line has it
abbrev pub first_line : Goal → Answer → List ℕ
first_line goal (Mate plies first) = goal_text goal ++ (decimal plies ++ 32 ∷ move_text first)
first_line goal (NoneWithin limit) = codes "none within " ++ decimal limit

-- the plies are 1 to 63, and a mate's are odd
abbrev pub IsInRange : Answer → Type 0
IsInRange (Mate plies first) = IsOdd plies × (plies ≤ 63)
IsInRange (NoneWithin limit) = (0 < limit) × (limit ≤ 63)

-- a mate's first move has a name
abbrev pub HasNamedMove : Answer → Type 0
HasNamedMove (Mate plies first) = IsPly first
HasNamedMove (NoneWithin limit) = ⊤

-- the text's first line is the answer's
abbrev pub HasFirstLine : Goal → Answer → List ℕ → Type 0
HasFirstLine goal answer text = IsInRange answer × ((rest : List ℕ) × (text ≡ first_line goal answer ++ 10 ∷ rest))
