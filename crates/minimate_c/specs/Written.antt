-- What a program in another language is answered by a text.
use Rattle.std.specs.Prelude.{ℕ, ◌<◌, ◌≤◌, Bool, List, [], ◌∷◌, ◌++◌, length, drop, Option, None, Some}
use Rattle.board.specs.declared.fault.FenFault.{FenFault}
use Rattle.board.specs.Board.{PlainBoard}
use Rattle.rules.specs.declared.goal.Goal.{Goal}
use Rattle.rules.specs.Reading.{IsSoundFault}
use Rattle.problems.specs.Answer.{IsFewest, ForcesNothing}
use Rattle.problems.specs.declared.key.Key.{Key}
use Rattle.problems.specs.Keys.{ListsKeys}
use Rattle.problems.specs.Roots.{IsLimit}
use Rattle.searcher.specs.Best.{IsBest}
use Rattle.wintree.specs.Plan.{Plan}
use Rattle.wintree.specs.Text.{text as plan_text}
use Rattle.refusals.specs.Reply.{line_of}
use Rattle.answer_texts.specs.Answers.{none_text, keys_text}
use Rattle.solver.specs.declared.solver.Solver.{Solver}
use Rattle.solver.specs.Stopping.{IsStopped, Hears}
use Rattle.calls.specs.Calls.{goal_of}
use Rattle.minimate_c.specs.Asked.{IsAt}

-- the number and the text that tell of the keys: what `minimate keys` writes of them, or that there are none within the limit
pub data KeysTold (goal : Goal) (b : PlainBoard) (limit : ℕ) : ℕ → List ℕ → Type 0 where
  some_keys : {key : Key} {keys : List Key} → ListsKeys goal b limit (key ∷ keys) → KeysTold goal b limit 0 (keys_text limit (key ∷ keys))
  no_keys : ListsKeys goal b limit [] → KeysTold goal b limit 1 (keys_text limit [])

-- the number and the text that tell of the best plan for the fewest plies up to the limit, or that nothing is forced within it
pub data TreeTold (goal : Goal) (b : PlainBoard) (limit : ℕ) : ℕ → List ℕ → Type 0 where
  some_tree : (plies : ℕ) (plan : Plan) → plies ≤ limit → IsFewest goal b plies → IsBest goal b plan → TreeTold goal b limit 0 (line_of (plan_text plan))
  no_tree : ForcesNothing goal b limit → TreeTold goal b limit 1 (none_text limit)

-- this is told of the position of a text, for a limit that is searched
pub record IsTold (Is : Goal → PlainBoard → ℕ → ℕ → List ℕ → Type 0) (text : List ℕ) (stale : Bool) (limit number : ℕ) (reply : List ℕ) : Type 0 where
  pub position : PlainBoard
  pub is_at : IsAt text position
  pub within : IsLimit limit
  pub right : Is (goal_of stale) position limit number reply

-- the number that says why nothing is told
pub data IsWhy (text : List ℕ) (limit : ℕ) (Stopped : Type 0) : ℕ → Type 0 where
  refused : (fault : FenFault) → IsSoundFault text fault → IsWhy text limit Stopped 2
  another_limit : (IsLimit limit → ⊥) → IsWhy text limit Stopped 3
  stopped : Stopped → IsWhy text limit Stopped 4
  no_memory : IsWhy text limit Stopped 7

-- what is written into the room, with its length: what is told, or nothing where it is too long, or nothing where nothing is told; the solver is held on
pub data WritesTold (Is : Goal → PlainBoard → ℕ → ℕ → List ℕ → Type 0) (text : List ℕ) (stale : Bool) (limit : ℕ) (old : List ℕ)
    : Option Solver → Option Solver → ℕ → List ℕ → ℕ → Type 0 where
  written : {before after : Solver} {number : ℕ} {reply : List ℕ} → Hears before after → IsTold Is text stale limit number reply → length reply ≤ length old
      → WritesTold Is text stale limit old (Some before) (Some after) number (reply ++ drop (length reply) old) (length reply)
  too_long : {before after : Solver} {number : ℕ} {reply : List ℕ} → Hears before after → IsTold Is text stale limit number reply → length old < length reply
      → WritesTold Is text stale limit old (Some before) (Some after) 9 old (length reply)
  untold : {before after : Solver} {number : ℕ} → Hears before after → IsWhy text limit (IsStopped after) number
      → WritesTold Is text stale limit old (Some before) (Some after) number old 0
  no_solver : {held : Option Solver} → WritesTold Is text stale limit old None held 5 old 0
