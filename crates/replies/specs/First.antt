-- What is written for the tree of a first move that is given.
use Rattle.std.specs.Prelude.{◌≡◌, ◌⊎◌, ℕ, List, Some, slice_get}
use Rattle.board.specs.Board.{PlainBoard}
use Rattle.rules.specs.declared.goal.Goal.{Goal}
use Rattle.rules.specs.MoveText.{move_text}
use Rattle.rules.specs.Moves.{IsLawful, IsMove}
use Rattle.rules.specs.Squares.{Ply}
use Rattle.problems.specs.Answer.{ForcesNothing}
use Rattle.problems.specs.declared.root.Root.{Root}
use Rattle.wintree.specs.Plan.{Plan}
use Rattle.wintree.specs.Text.{text as plan_text}
use Rattle.searcher.specs.First.{IsOpened, TakesNone}
use Rattle.command_line.specs.declared.line.Limits.{Limits}
use Rattle.command_line.specs.declared.line.NamedMove.{NamedMove}
use Rattle.refusals.specs.Reply.{Reply, answered, refused, line_of}
use Rattle.refusals.specs.declared.refusal.Refusal.TheVariants.{Move}
use Rattle.answer_texts.specs.Answers.{none_text}
use Rattle.refusals.specs.Outcome.{IsReplyAt, IsSoundText}
use Rattle.context.specs.Shown.{ShowsWithin}
use Rattle.context.specs.Naming.{NamesNone}

-- the text of that plan, or that there is none within the limit
abbrev pub ShowsTreeOf : Goal → PlainBoard → Ply → ℕ → Reply → Type 0
ShowsTreeOf goal b m limit reply =
    ((plan : Plan) × IsOpened goal b m limit (Some plan) × (reply ≡ answered (line_of (plan_text plan))))
    ⊎ (TakesNone goal b limit m × (reply ≡ answered (none_text limit)))

-- the same, or the refusal of the first value that is outside its limits
abbrev pub ShowsTreeFound : Goal → PlainBoard → Ply → Limits → Reply → Type 0
ShowsTreeFound goal b m limits reply = ShowsWithin limits (ShowsTreeOf goal b m limits.limit) reply

-- the same for the lawful move of this name, or that no lawful move has the name
abbrev pub ShowsFirst : Goal → PlainBoard → List ℕ → Limits → Reply → Type 0
ShowsFirst goal b name limits reply =
    ((m : Ply) × IsLawful b m × (move_text m ≡ name) × ShowsTreeFound goal b m limits reply)
    ⊎ (NamesNone b name × (reply ≡ refused Move))

-- ---- the root's moves by number

-- it takes no number of plies up to the limit
abbrev pub MissesJob : Root → ℕ → ℕ → Type 0
MissesJob r job limit = (m : Ply) → slice_get r.moves.items job ≡ Some m → TakesNone r.goal r.board limit m

-- what is shown of it
abbrev pub ShowsJob : Root → ℕ → Limits → Reply → Type 0
ShowsJob r job limits reply = (m : Ply) → slice_get r.moves.items job ≡ Some m → ShowsTreeFound r.goal r.board m limits reply

-- ---- a move that misses

-- behind the reply the attacker forces the goal within no number of plies up to the limit
abbrev pub IsUnmet : Goal → PlainBoard → ℕ → Ply → Type 0
IsUnmet goal q limit r = (p : PlainBoard) × IsMove q r p × ForcesNothing goal p limit

-- the lawful move of this name takes no number of plies up to the limit
abbrev pub MissesWithin : Goal → PlainBoard → ℕ → List ℕ → Type 0
MissesWithin goal b limit name = (m : Ply) × IsLawful b m × (move_text m ≡ name) × TakesNone goal b limit m

-- so it is at the sound position of a text
abbrev pub MissesAt : NamedMove → Goal → Limits → Type 0
MissesAt played goal limits = (b : PlainBoard) × IsSoundText played.fen.now b × MissesWithin goal b limits.limit played.name.now

-- ---- the reply

-- the same at the sound position of a text, or the refusal of the text's fault
abbrev pub IsFirstReply : NamedMove → Goal → Limits → Reply → Type 0
IsFirstReply played goal limits reply = IsReplyAt played.fen.now (λ b. ShowsFirst goal b played.name.now limits) reply
