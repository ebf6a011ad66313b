-- What a call of the library answers.
use Rattle.std.specs.Prelude.{◌≡◌, ◌⊎◌, ℕ, Bool, true, false, List, []}
use Rattle.std.specs.Borrow.{Bor}
use Rattle.rules.specs.declared.goal.Goal.{Goal}
use Rattle.rules.specs.declared.goal.Goal.TheVariants.{Mate, MateOrStale}
use Rattle.command_line.specs.declared.line.Action.TheVariants.{Moves, Check, Solve, Keys, Tree}
use Rattle.command_line.specs.declared.line.Limits.{Limits}
use Rattle.replies.specs.Output.{IsOutput}
use Rattle.replies.specs.Playing.{IsAfterReply}
use Rattle.refusals.specs.Reply.{Reply, refused}
use Rattle.refusals.specs.declared.refusal.Refusal.TheVariants.{NoMemory}
use Rattle.verdicts.specs.Verdict.{IsVerdict}
use Rattle.calls.specs.declared.asked.SearchTerms.{SearchTerms}
use Rattle.calls.specs.declared.asked.Call.{Call}
use Rattle.calls.specs.declared.asked.Call.TheVariants as call
use Rattle.calls.specs.Playing.{IsFaultReply}
use Rattle.calls.specs.Room.{IsPut}

-- the goal that a caller names: mate, or stalemate too
abbrev pub goal_of : Bool → Goal
goal_of false = Mate
goal_of true = MateOrStale

-- the limits of a search with one worker
abbrev pub limits_of : SearchTerms → Limits
limits_of terms = record { limit = terms.limit; workers = 1; slots = terms.slots }

-- the terms with these values
abbrev pub search_terms : Bool → ℕ → ℕ → SearchTerms
search_terms stale limit slots = record { stale = stale; limit = limit; slots = slots }

-- the reply to a call at the position of a text: the program's to its line, or what is told of the text, of a move or of a certificate
abbrev pub IsReply : Bor (List ℕ) → Call → Reply → Type 0
IsReply fen call.Moves = IsOutput (record { fen = fen; action = Moves }) []
IsReply fen call.Fault = IsFaultReply fen.now
IsReply fen (call.After name) = IsAfterReply fen.now name.now
IsReply fen (call.Check stale tree) = IsOutput (record { fen = fen; action = Check (goal_of stale) }) tree.now
IsReply fen (call.Verify stale certificate) = IsVerdict (record { fen = fen; goal = goal_of stale }) certificate.now
IsReply fen (call.Solve terms) = IsOutput (record { fen = fen; action = Solve (goal_of terms.stale) (limits_of terms) }) []
IsReply fen (call.Keys terms) = IsOutput (record { fen = fen; action = Keys (goal_of terms.stale) (limits_of terms) }) []
IsReply fen (call.Tree terms) = IsOutput (record { fen = fen; action = Tree (goal_of terms.stale) (limits_of terms) }) []

-- the room and the number are those of that reply, or of the refusal for want of memory
abbrev pub Answers : Bor (List ℕ) → Call → List ℕ → List ℕ → ℕ → Type 0
Answers fen call old new number = (reply : Reply) × (IsReply fen call reply ⊎ (reply ≡ refused NoMemory)) × IsPut reply.text old new number
