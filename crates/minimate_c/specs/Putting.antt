-- What becomes of a question, and of what a search found to tell.
use Rattle.std.specs.Prelude.{◌≡◌, ◌⊎◌, ℕ, ◌<◌, ◌≤◌, Bool, List, [], ◌∷◌, ◌++◌, length, drop, Option, None, Some, Result, Ok, Err, MatchResult}
use Rattle.board.specs.declared.fault.FenFault.{FenFault}
use Rattle.board.specs.Board.{PlainBoard}
use Rattle.rules.specs.declared.goal.Goal.{Goal}
use Rattle.rules.specs.Reading.{IsSoundFault}
use Rattle.searcher.specs.declared.halt.Halt.{Halt}
use Rattle.searcher.specs.declared.halt.Halt.TheVariants.{Stopped, NoMemory}
use Rattle.problems.specs.declared.key.Key.{Key}
use Rattle.problems.specs.declared.problem.Problem.{Problem}
use Rattle.problems.specs.Problems.{IsProblemOf}
use Rattle.problems.specs.Roots.{IsLimit}
use Rattle.solver.specs.declared.solver.Solver.{Solver}
use Rattle.solver.specs.Stopping.{IsStopped, Hears}
use Rattle.minimate_c.specs.declared.writing.Telling.{Telling}
use Rattle.minimate_c.specs.declared.writing.Telling.TheVariants.{Keys, Tree}
use Rattle.minimate_c.specs.declared.writing.SolverText.{SolverText}
use Rattle.minimate_c.specs.Asked.{IsAt}
use Rattle.minimate_c.specs.Written.{IsTold, IsWhy, KeysTold, TreeTold}

-- the problem is what is asked of the position of a text
abbrev pub IsProblemAsked : List ℕ → Goal → ℕ → Problem → Type 0
IsProblemAsked text goal limit p = (b : PlainBoard) × IsAt text b × IsProblemOf b goal limit p

-- the number says why there is no problem to ask about
abbrev pub IsUnasked : List ℕ → ℕ → ℕ → Type 0
IsUnasked text limit number = ((fault : FenFault) × IsSoundFault text fault × (number ≡ 2)) ⊎ ((IsLimit limit → ⊥) × (number ≡ 3))

-- the number of each reason why a search ended without an answer
abbrev pub number_of : Halt → ℕ
number_of Stopped = 4
number_of NoMemory = 7

-- whether there are keys, as a number
abbrev pub keys_number : List Key → ℕ
keys_number [] = 1
keys_number (key ∷ keys) = 0

-- what the number and the text tell of
abbrev pub TellsText : Telling → Goal → PlainBoard → ℕ → ℕ → List ℕ → Type 0
TellsText Keys = KeysTold
TellsText Tree = TreeTold

-- what a solver that is held finds to tell, or the number that says why nothing; it is held on, or there is none
abbrev pub FindsTold : (Goal → PlainBoard → ℕ → ℕ → List ℕ → Type 0) → List ℕ → Bool → ℕ → Option Solver → Option Solver → Result SolverText ℕ → Type 0
FindsTold Is text stale limit None held found = found ≡ Err 5
FindsTold Is text stale limit (Some before) None found = ⊥
FindsTold Is text stale limit (Some before) (Some after) found =
    Hears before after × MatchResult found (λ told. IsTold Is text stale limit told.number told.text.items) (IsWhy text limit (IsStopped after))

-- the text stands at the beginning of the room, or is longer than it; or the number says why there is none
abbrev pub PutsTold : Result SolverText ℕ → List ℕ → ℕ → List ℕ → ℕ → Type 0
PutsTold (Ok told) old number new long =
    (((length told.text.items ≤ length old) × (new ≡ told.text.items ++ drop (length told.text.items) old) × (number ≡ told.number))
    ⊎ ((length old < length told.text.items) × (new ≡ old) × (number ≡ 9)))
    × (long ≡ length told.text.items)
PutsTold (Err why) old number new long = (new ≡ old) × (number ≡ why) × (long ≡ 0)
