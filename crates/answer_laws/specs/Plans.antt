-- Laws of winning trees.
use Rattle.std.specs.Prelude.{◌≡◌, ℕ, ◌+◌, ◌*◌, ◌≤◌}
use Rattle.board.specs.Board.{PlainBoard}
use Rattle.rules.specs.declared.goal.Goal.{Goal}
use Rattle.rules.specs.Squares.{Ply}
use Rattle.rules.specs.Forces.{Forces}
use Rattle.problems.specs.declared.answer.Answer.TheVariants.{Mate}
use Rattle.problems.specs.Answer.{IsFewest, IsAnswer}
use Rattle.wintree.specs.Plan.{Plan, ends, splits, depth}
use Rattle.wintree.specs.Text.{text, TreeText}
use Rattle.wintree.specs.Wins.{Wins, height}
use Rattle.searcher.specs.Best.{IsBest}

-- what a plan wins is forced, within as many plies as the plan is high
abbrev pub WinsForce : Type 0
WinsForce = (goal : Goal) (b : PlainBoard) (plan : Plan) → Wins goal b plan → Forces goal b.mover b (height plan)

-- no plan wins within fewer than the fewest plies
abbrev pub WinsNoSooner : Type 0
WinsNoSooner = (goal : Goal) (b : PlainBoard) (plan : Plan) (n : ℕ) → Wins goal b plan → IsFewest goal b n → n ≤ height plan

-- a plan that wins has a text
abbrev pub WinsHaveText : Type 0
WinsHaveText = (goal : Goal) (b : PlainBoard) (plan : Plan) → Wins goal b plan → TreeText (text plan) plan

-- each of the attacker's moves but the last is met by one of the defender's
abbrev pub TwiceAsHigh : Type 0
TwiceAsHigh = (plan : Plan) → height plan + 1 ≡ 2 * depth plan

-- a position has one best plan
abbrev pub OneBestPlan : Type 0
OneBestPlan = (goal : Goal) (b : PlainBoard) (plan other : Plan) → IsBest goal b plan → IsBest goal b other → plan ≡ other

-- the best plan wins, in the fewest plies
abbrev pub BestWins : Type 0
BestWins = (goal : Goal) (b : PlainBoard) (plan : Plan) (n : ℕ) → IsBest goal b plan → IsFewest goal b n → Wins goal b plan × (height plan ≡ n)

-- the attacker's first move
abbrev pub opening_move : Plan → Ply
opening_move (ends m end) = m
opening_move (splits m replies) = m

-- the best plan begins with the answer's move
abbrev pub BestBegins : Type 0
BestBegins = (goal : Goal) (b : PlainBoard) (limit plies : ℕ) (first : Ply) (plan : Plan) → IsAnswer goal b limit (Mate plies first) → IsBest goal b plan → opening_move plan ≡ first

-- where the fewest plies are at most 63, the best plan's text is that of a tree which is read: at most 32 of the attacker's moves are nested
abbrev pub BestIsRead : Type 0
BestIsRead = (goal : Goal) (b : PlainBoard) (plan : Plan) (n : ℕ) → IsBest goal b plan → IsFewest goal b n → n ≤ 63 → TreeText (text plan) plan × (depth plan ≤ 32)
