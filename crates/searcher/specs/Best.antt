-- The tree that takes the fewest plies, and then the least move.
use Rattle.std.specs.Prelude.{◌≤◌, ℕ, Option, None, Some}
use Rattle.board.specs.Board.{PlainBoard}
use Rattle.rules.specs.declared.goal.Goal.{Goal}
use Rattle.rules.specs.Squares.{Ply}
use Rattle.rules.specs.Moves.{IsMove}
use Rattle.rules.specs.Order.{ListsLawful}
use Rattle.problems.specs.Answer.{IsFewest, IsLeastWin, ForcesNothing}
use Rattle.wintree.specs.Plan.{Plan, ends, splits, Replies, last, more}
use Rattle.wintree.specs.Wins.{EndsAt, moves_of}

-- the least of the moves that force the goal in the fewest plies
abbrev pub IsBestMove : Goal → PlainBoard → Ply → Type 0
IsBestMove goal b m = (n : ℕ) × IsFewest goal b n × IsLeastWin goal b n m

abbrev mutual
  -- The plan's move is the best one and leads to a position, and there the line ends rightly, or the replies are exactly the lawful ones, in order, and each reply's plan is the best
  pub IsBest : Goal → PlainBoard → Plan → Type 0
  IsBest goal b (ends m end) = IsBestMove goal b m × ((q : PlainBoard) × IsMove b m q × EndsAt goal q end)
  IsBest goal b (splits m replies) = IsBestMove goal b m × ((q : PlainBoard) × IsMove b m q × ListsLawful q (moves_of replies) × EachBest goal q replies)

  -- each reply's plan is the best in the position after the reply
  pub EachBest : Goal → PlainBoard → Replies → Type 0
  EachBest goal q (last r plan) = (b : PlainBoard) × IsMove q r b × IsBest goal b plan
  EachBest goal q (more r plan replies) = ((b : PlainBoard) × IsMove q r b × IsBest goal b plan) × EachBest goal q replies

-- the plan is the best in the position after the move
abbrev pub IsBestAfter : Goal → PlainBoard → Ply → Plan → Type 0
IsBestAfter goal q r plan = (b : PlainBoard) × IsMove q r b × IsBest goal b plan

-- the best plan, where the goal is forced in some number of plies up to the limit; or none, where it is in none
abbrev pub IsBestWithin : Goal → PlainBoard → ℕ → Option Plan → Type 0
IsBestWithin goal b limit (Some plan) = IsBest goal b plan × ((plies : ℕ) × (plies ≤ limit) × IsFewest goal b plies)
IsBestWithin goal b limit None = ForcesNothing goal b limit
