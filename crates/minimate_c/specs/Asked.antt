-- What a program in another language is answered.
use Rattle.std.specs.Prelude.{◌≡◌, ℕ, List, Bool, Option, None, Some}
use Rattle.std.specs.Arc.{arc_value}
use Rattle.board.specs.declared.game.Kind.{Kind}
use Rattle.board.specs.declared.game.Kind.TheVariants.{Queen, Rook, Bishop, Knight}
use Rattle.board.specs.declared.fault.FenFault.{FenFault}
use Rattle.board.specs.Board.{PlainBoard}
use Rattle.board.specs.Fen.{IsFenText}
use Rattle.rules.specs.declared.goal.Goal.{Goal}
use Rattle.rules.specs.Squares.{Ply}
use Rattle.rules.specs.Reach.{IsSound}
use Rattle.rules.specs.Reading.{IsSoundFault}
use Rattle.slots.specs.Promise.{slots_of}
use Rattle.stops.specs.Promise.{requests}
use Rattle.problems.specs.Roots.{IsLimit}
use Rattle.problems.specs.declared.answer.Answer.{Answer}
use Rattle.problems.specs.declared.answer.Answer.TheVariants as answer
use Rattle.problems.specs.Answer.{IsAnswer}
use Rattle.calls.specs.Calls.{goal_of}
use Rattle.solver.specs.declared.solver.Solver.{Solver}
use Rattle.solver.specs.declared.listening.StopSource.{StopSource}
use Rattle.solver.specs.Stopping.{IsStopped, Hears}
use Rattle.minimate_c.specs.declared.found.First.{First}
use Rattle.minimate_c.specs.declared.found.Win.{Win}

-- the letter of what a pawn becomes, or 0
abbrev pub promotion_letter : Option Kind → ℕ
promotion_letter (Some Queen) = 113
promotion_letter (Some Rook) = 114
promotion_letter (Some Bishop) = 98
promotion_letter (Some Knight) = 110
promotion_letter _ = 0

-- a move in plain numbers
abbrev pub first_told : Ply → First
first_told m = record { from_file = m.from.file; from_rank = m.from.rank; to_file = m.to.file; to_rank = m.to.rank; promotion = promotion_letter m.promotion }

-- the plies and the first move in plain numbers
abbrev pub found_of : ℕ → Ply → Win
found_of plies first = record { plies = plies; first = first_told first }

-- the number and what was found tell of the answer; what was found before stays where nothing is forced
abbrev pub TellsAnswer : Answer → Win → ℕ → Win → Type 0
TellsAnswer (answer.Mate plies first) old number found = (number ≡ 0) × (found ≡ found_of plies first)
TellsAnswer (answer.NoneWithin limit) old number found = (number ≡ 1) × (found ≡ old)

-- the text is that of the position, in which the side that isn't to move is out of check
abbrev pub IsAt : List ℕ → PlainBoard → Type 0
IsAt text b = IsFenText text b × IsSound b

-- the number that is the reply to a question, with what was found: the answer, or why there is none
pub data Replies (text : List ℕ) (goal : Goal) (limit : ℕ) (Stopped : Type 0) (old : Win) : ℕ → Win → Type 0 where
  forced : (b : PlainBoard) {plies : ℕ} {first : Ply} → IsAt text b → IsLimit limit → IsAnswer goal b limit (answer.Mate plies first) → Replies text goal limit Stopped old 0 (found_of plies first)
  none_within : (b : PlainBoard) → IsAt text b → IsLimit limit → IsAnswer goal b limit (answer.NoneWithin limit) → Replies text goal limit Stopped old 1 old
  refused : (fault : FenFault) → IsSoundFault text fault → Replies text goal limit Stopped old 2 old
  another_limit : (IsLimit limit → ⊥) → Replies text goal limit Stopped old 3 old
  stopped : Stopped → Replies text goal limit Stopped old 4 old

-- the reply of the solver that a handle holds, which it holds on, or that it holds none
pub data AsksSolver (text : List ℕ) (stale : Bool) (limit : ℕ) (old : Win) : Option Solver → Option Solver → ℕ → Win → Type 0 where
  asked : {before after : Solver} {number : ℕ} {found : Win} → Hears before after → Replies text (goal_of stale) limit (IsStopped after) old number found → AsksSolver text stale limit old (Some before) (Some after) number found
  no_solver : {held : Option Solver} → AsksSolver text stale limit old None held 5 old

-- a solver over so many slots, and what stops it, which nobody has asked for yet
pub record IsOpenSolver (slots : ℕ) (held : Option Solver) (stop : Option StopSource) : Type 0 where
  pub solver : Solver
  pub source : StopSource
  pub is_solver : held ≡ Some solver
  pub is_source : stop ≡ Some source
  pub shared : arc_value solver.scout.stop.shared ≡ arc_value source.shared
  pub sized : slots_of solver.slots ≡ slots
  pub unasked : requests source.seat ≡ 0
