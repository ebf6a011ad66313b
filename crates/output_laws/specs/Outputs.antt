-- Laws of what the program prints for a line.
use Rattle.std.specs.Prelude.{◌≡◌, ℕ, ◌≤◌, List, length, None, Some}
use Rattle.board.specs.Board.{PlainBoard}
use Rattle.rules.specs.declared.goal.Goal.{Goal}
use Rattle.rules.specs.Squares.{Ply}
use Rattle.problems.specs.declared.answer.Answer.TheVariants.{Mate}
use Rattle.problems.specs.Answer.{IsFewest}
use Rattle.command_line.specs.declared.line.Line.{Line}
use Rattle.command_line.specs.declared.line.Limits.{Limits}
use Rattle.command_line.specs.declared.line.Action.{Action}
use Rattle.command_line.specs.declared.line.Action.TheVariants.{Solve, Keys, Tree, Check}
use Rattle.answer_texts.specs.Answers.{answer_text, checked_text}
use Rattle.context.specs.Limits.{fault_of}
use Rattle.replies.specs.Output.{IsOutput}
use Rattle.refusals.specs.Outcome.{IsSoundText}
use Rattle.refusals.specs.Reply.{Reply, answered}

-- a line has one output for an input
abbrev pub OneOutput : Type 0
OneOutput = (line : Line) (input : List ℕ) (x y : Reply) → IsOutput line input x → IsOutput line input y → x ≡ y

-- what is printed for a line that is no `check` doesn't depend on the input
abbrev pub InputOfCheckAlone : Type 0
InputOfCheckAlone = (line : Line) (input other : List ℕ) (reply : Reply) → ((goal : Goal) → line.action ≡ Check goal → ⊥) → IsOutput line input reply → IsOutput line other reply

-- two limits name as many plies, and neither is refused
pub record NamesAsMany (one other : Limits) : Type 0 where
  pub plies : one.limit ≡ other.limit
  pub taken : fault_of one ≡ None
  pub also : fault_of other ≡ None

-- the two are one command to search, for the same goal and as many plies, by any workers and with any slots
abbrev pub SearchesAlike : Action → Action → Type 0
SearchesAlike (Solve goal one) (Solve goal' other) = (goal ≡ goal') × NamesAsMany one other
SearchesAlike (Keys goal one) (Keys goal' other) = (goal ≡ goal') × NamesAsMany one other
SearchesAlike (Tree goal one) (Tree goal' other) = (goal ≡ goal') × NamesAsMany one other
SearchesAlike _ _ = ⊥

-- the workers and the slots change nothing that is printed
abbrev pub AnyWorkers : Type 0
AnyWorkers = (line other : Line) (input : List ℕ) (x y : Reply) → line.fen.now ≡ other.fen.now → SearchesAlike line.action other.action → IsOutput line input x → IsOutput other input y → x ≡ y

-- from the sound position of the text the goal is forced in so many plies and no fewer, which are within limits that aren't refused
pub record IsForcedWithin (fen : List ℕ) (goal : Goal) (limits : Limits) (plies : ℕ) : Type 0 where
  pub board : PlainBoard
  pub sound : IsSoundText fen board
  pub taken : fault_of limits ≡ None
  pub within : plies ≤ limits.limit
  pub fewest : IsFewest goal board plies

-- then `solve` names these plies
abbrev pub SolveNames : Type 0
SolveNames = (line : Line) (goal : Goal) (limits : Limits) (plies : ℕ) (input : List ℕ) (reply : Reply) → IsForcedWithin line.fen.now goal limits plies → line.action ≡ Solve goal limits
    → IsOutput line input reply → (first : Ply) × (reply ≡ answered (answer_text goal (Mate plies first)))

-- and `check` says yes, with these plies, to what `tree` prints, where that is no longer than an input may be
abbrev pub TreeIsChecked : Type 0
TreeIsChecked = (tree check : Line) (goal : Goal) (limits : Limits) (plies : ℕ) (input : List ℕ) (printed : Reply) → IsForcedWithin tree.fen.now goal limits plies → check.fen.now ≡ tree.fen.now
    → tree.action ≡ Tree goal limits → check.action ≡ Check goal → IsOutput tree input printed → length printed.text ≤ 1048576 → IsOutput check printed.text (answered (checked_text (Some plies)))
