-- The tree of a first move that is given.
use Rattle.std.specs.Prelude.{◌≡◌, ◌≤◌, ℕ, Option, Some, None, slice_get}
use Rattle.board.specs.Board.{PlainBoard}
use Rattle.rules.specs.declared.goal.Goal.{Goal}
use Rattle.rules.specs.Squares.{Ply}
use Rattle.rules.specs.Moves.{IsMove}
use Rattle.rules.specs.Order.{ListsLawful}
use Rattle.problems.specs.Keys.{Takes}
use Rattle.problems.specs.declared.root.Root.{Root}
use Rattle.wintree.specs.Plan.{Plan, ends, splits}
use Rattle.wintree.specs.Wins.{EndsAt, moves_of}
use Rattle.searcher.specs.Best.{EachBest}

-- the plan begins with the move, and there the line ends rightly, or it has exactly the lawful replies, in order, and each reply's plan is the best
abbrev pub IsBestOf : Goal → PlainBoard → Ply → Plan → Type 0
IsBestOf goal b m (ends l end) = (l ≡ m) × ((q : PlainBoard) × IsMove b m q × EndsAt goal q end)
IsBestOf goal b m (splits l replies) = (l ≡ m) × ((q : PlainBoard) × IsMove b m q × ListsLawful q (moves_of replies) × EachBest goal q replies)

-- the move takes no number of plies up to the limit
abbrev pub TakesNone : Goal → PlainBoard → ℕ → Ply → Type 0
TakesNone goal b limit m = (n : ℕ) → n ≤ limit → Takes goal b n m → ⊥

-- the plan that begins with the move, which takes some number of plies up to the limit; or none, where it takes none
abbrev pub IsOpened : Goal → PlainBoard → Ply → ℕ → Option Plan → Type 0
IsOpened goal b m limit None = TakesNone goal b limit m
IsOpened goal b m limit (Some plan) = (plies : ℕ) × (plies ≤ limit) × Takes goal b plies m × IsBestOf goal b m plan

-- what is found of the root's move of this number
abbrev pub IsOpenedJob : Root → ℕ → Option Plan → Type 0
IsOpenedJob r job found = (m : Ply) → slice_get r.moves.items job ≡ Some m → IsOpened r.goal r.board m r.limit found
