-- Which jobs of a list of moves win.
use Rattle.std.specs.Prelude.{◌≡◌, ℕ, List, slice_get, Some}
use Rattle.board.specs.Board.{PlainBoard}
use Rattle.rules.specs.declared.goal.Goal.{Goal}
use Rattle.rules.specs.Squares.{Ply}
use Rattle.rules.specs.Order.{ListsLawful}
use Rattle.problems.specs.Answer.{Wins}

-- the move with this number wins within n plies
abbrev pub JobWins : Goal → PlainBoard → ℕ → List Ply → ℕ → Type 0
JobWins goal b n moves job = (m : Ply) × (slice_get moves job ≡ Some m) × Wins goal b n m

-- the same, of the list of lawful moves
abbrev pub RootJobWins : Goal → PlainBoard → ℕ → ℕ → Type 0
RootJobWins goal b n job = (moves : List Ply) × ListsLawful b moves × JobWins goal b n moves job
