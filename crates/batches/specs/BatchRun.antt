-- The steps of a batch.
use Rattle.std.specs.Prelude.{All, ◌≡◌, ◌⊎◌, ◌+◌, ◌<◌, ℕ, Bool, true, false, List, [], ◌∷◌, ◌++◌, length, drop, Option, None, Some, IfSome, Result, Ok, Err, vec_items, Vec}
use Rattle.std.specs.Io.KnownBytes.{Appends, Consumes}
use Rattle.std.specs.List.{AllZip}
use Rattle.atomic_table.specs.Seated.{TableId}
use Rattle.slots.specs.Promise.{IsSeatOf}
use Rattle.problems.specs.Problems.{IsProblemOf}
use Rattle.problems.specs.declared.problem.Problem.{Problem}
use Rattle.std.specs.declared.alloc.Global.{Global}
use Rattle.command_line.specs.declared.line.Limits.{Limits}
use Rattle.searcher.specs.declared.fault.SolveFault.{SolveFault}
use Rattle.devices.specs.Device.{AppendsBeginning}
use Rattle.devices.specs.Input.{OfInput}
use Rattle.board.specs.Board.{PlainBoard}
use Rattle.board.specs.declared.fault.FenFault.{FenFault}
use Rattle.rules.specs.Reading.{IsSoundFault}
use Rattle.refusals.specs.Outcome.{IsSoundText}
use Rattle.context.specs.Limits.{fault_of, refusal_of_solve}
use Rattle.context.specs.Limits.{FindsWithin}
use Rattle.refusals.specs.Refusal.{refusal_of_fen}
use Rattle.refusals.specs.declared.refusal.Refusal.{Refusal}
use Rattle.refusals.specs.declared.refusal.Refusal.TheVariants as refusal
use Rattle.devices.specs.declared.transfer.InputFault.{InputFault}
use Rattle.devices.specs.declared.transfer.InputFault.TheVariants as input
use Rattle.batch_texts.specs.Asking.{limit_of, with_plies}
use Rattle.batches.specs.Batch.{AnswersLines, IsAskedReply, HasReplyText, IsLineReply, IsUnnumberedReply, answered_lines, joined, lines_of, next_number, numbered}
use Rattle.input_lines.specs.Lines.{IsFed, IsLastOf, IsReadAs, IsUnread, left_of}
use Rattle.input_lines.specs.Mark.{without_mark}
use Rattle.batch_texts.specs.declared.asked.Asked.{Asked}
use Rattle.batch_texts.specs.declared.asked.Batch.{Batch}
use Rattle.batches.specs.declared.ahead.Ahead.{Ahead}
use Rattle.batches.specs.declared.ahead.Lane.{Lane}
use Rattle.batches.specs.declared.batch.BatchRun.{BatchRun}
use Rattle.batches.specs.declared.batch.BatchStop.{BatchStop}
use Rattle.batches.specs.declared.batch.BatchStop.TheVariants.{ReadFailed, WriteFailed, NoMemory}
use Rattle.input_lines.specs.declared.lines.Next.{Next}

-- ---- the batch under way

-- its limits are searched
abbrev pub IsSearched : Batch → Type 0
IsSearched batch = fault_of batch.limits ≡ None

-- it is what is written for a line that says this
abbrev pub IsAhead : Batch → Ahead → Type 0
IsAhead batch reply = HasReplyText batch reply.said.items reply.text.items

-- each is so, of whichever thread
abbrev pub AreAhead : Batch → List (Vec Ahead Global) → Type 0
AreAhead batch rows = All (λ row. All (IsAhead batch) row.items) rows

-- its seat is one of the table, and its replies are right
abbrev pub IsLane : Batch → TableId → Lane → Type 0
IsLane batch table lane = IsSeatOf table lane.seat × All (IsAhead batch) lane.replies.items

abbrev pub IsBatchRun : BatchRun → Type 0
IsBatchRun run = IsSearched run.batch × IsUnread run.unread × AreAhead run.batch run.lookahead.rows.items

-- a batch in which nothing was read, or the refusal of the limits, or want of memory
abbrev pub OpensBatchRun : Batch → Result BatchRun Refusal → Type 0
OpensBatchRun batch result = FindsWithin batch.limits
    (λ run. IsBatchRun run × (run.batch ≡ batch) × (run.unread.from ≡ 0) × (run.unread.to ≡ 0)) result

-- the limits within which a line is searched
abbrev pub asked_limits : Batch → Asked → Limits
asked_limits batch asked = with_plies batch.limits (limit_of batch.limits.limit asked.moves)

-- what is asked is refused for this: the limits at a sound position, or the text's fault
abbrev pub IsAskedRefusal : Batch → Asked → Refusal → Type 0
IsAskedRefusal batch asked why =
    ((b : PlainBoard) × IsSoundText asked.fen.now b × ((fault : SolveFault) × (fault_of (asked_limits batch asked) ≡ Some fault) × (why ≡ refusal_of_solve fault)))
    ⊎ ((fault : FenFault) × IsSoundFault asked.fen.now fault × (why ≡ refusal_of_fen fault))

-- the problem that is asked, at the sound position of the text within limits that are taken; or why what is asked is refused
abbrev pub AsksProblem : Batch → Asked → Result Problem Refusal → Type 0
AsksProblem batch asked (Ok problem) = IsSoundText asked.fen.now problem.position × (fault_of (asked_limits batch asked) ≡ None)
    × IsProblemOf problem.position batch.goal (limit_of batch.limits.limit asked.moves) problem
AsksProblem batch asked (Err why) = IsAskedRefusal batch asked why

-- a text is a reply to what is asked, and a refusal is one or is want of memory
abbrev pub GivesAsked : Batch → Asked → Result (Vec ℕ Global) Refusal → Type 0
GivesAsked batch asked (Ok text) = IsAskedReply batch asked (vec_items text)
GivesAsked batch asked (Err why) = (why ≡ refusal.NoMemory) ⊎ IsAskedRefusal batch asked why

-- ---- steps

-- what was seen of the input, of the output and of failures before a step and after it, and the number of the line before it
pub record Step : Type 0 where
  pub number : ℕ
  pub left : Option (List ℕ)
  pub left_after : Option (List ℕ)
  pub written : Option (List ℕ)
  pub written_after : Option (List ℕ)
  pub failed_reads : ℕ
  pub failed_reads_after : ℕ
  pub failed_writes : ℕ
  pub failed_writes_after : ℕ

abbrev pub step_of : {S K : Type 0} → BatchRun → BatchRun → (S → Option (List ℕ)) → (S → ℕ) → S → S → (K → Option (List ℕ)) → (K → ℕ) → K → K → Step
step_of run run_after remaining read_failures reader reader_after contents write_failures writer writer_after = record {
  number = run.number;
  left = left_of run.unread (remaining reader);
  left_after = left_of run_after.unread (remaining reader_after);
  written = contents writer;
  written_after = contents writer_after;
  failed_reads = read_failures reader;
  failed_reads_after = read_failures reader_after;
  failed_writes = write_failures writer;
  failed_writes_after = write_failures writer_after;
}

-- so many reads and writes failed
abbrev pub Fails : Step → ℕ → ℕ → Type 0
Fails step reads writes = (step.failed_reads_after ≡ step.failed_reads + reads) × (step.failed_writes_after ≡ step.failed_writes + writes)

-- the text is, but for its number, the reply to what comes next of the input; none comes at its end
abbrev pub GivesNext : Batch → Next → Option (Vec ℕ Global) → Type 0
GivesNext batch next None = (line : List ℕ) → IsReadAs line next → line ≡ []
GivesNext batch next (Some text) = (line : List ℕ) → IsReadAs line next → (0 < length line) × IsUnnumberedReply batch line (vec_items text)

-- the text is the reply to the next line, with its number
abbrev pub RepliesToNext : Batch → Step → List ℕ → List ℕ → Type 0
RepliesToNext batch step line text = IsLineReply batch (next_number step.number, line) text

-- the text is the reply to the last line, or is empty where none was left
abbrev pub RepliesToLast : Batch → Step → List ℕ → List ℕ → Type 0
RepliesToLast batch step line text =
    (texts : List (List ℕ)) × AllZip (IsLineReply batch) (numbered step.number (lines_of line)) texts × (text ≡ joined texts)

-- the line is one, and the first of what was left
abbrev pub IsFirstOf : Option (List ℕ) → List ℕ → Type 0
IsFirstOf left line = (lines_of line ≡ line ∷ []) × IfSome left (λ told. (rest : List (List ℕ)) × (lines_of told ≡ line ∷ rest))

-- a line with a feed is taken and answered; or the last one, or there is none; or something stops it
abbrev pub TakesStep : Batch → Step → Result Bool BatchStop → Type 0
TakesStep batch step (Ok true) = (line : List ℕ) × (text : List ℕ)
    × IsFed line × Consumes step.left step.left_after line × RepliesToNext batch step line text × Appends step.written step.written_after text × Fails step 0 0
TakesStep batch step (Ok false) = (line : List ℕ) × (text : List ℕ)
    × IsLastOf step.left line × RepliesToLast batch step line text × Appends step.written step.written_after text × Fails step 0 0
TakesStep batch step (Err ReadFailed) = Appends step.written step.written_after [] × Fails step 1 0
TakesStep batch step (Err WriteFailed) = (line : List ℕ) × (text : List ℕ)
    × IsFirstOf step.left line × RepliesToNext batch step line text × AppendsBeginning step.written step.written_after text × Fails step 0 1
TakesStep batch step (Err NoMemory) = Appends step.written step.written_after [] × Fails step 0 0

-- the status of a batch that ends so
abbrev pub stop_status : Option BatchStop → ℕ
stop_status None = 0
stop_status (Some NoMemory) = 3
stop_status (Some _) = 4

-- how a text is written by a batch that ends so
abbrev pub WritesUntil : Step → Option BatchStop → List ℕ → Type 0
WritesUntil step None text = Appends step.written step.written_after text × Fails step 0 0
WritesUntil step (Some ReadFailed) text = Appends step.written step.written_after text × Fails step 1 0
WritesUntil step (Some WriteFailed) text = AppendsBeginning step.written step.written_after text × Fails step 0 1
WritesUntil step (Some NoMemory) text = Appends step.written step.written_after text × Fails step 0 0

-- lines are taken and answered
abbrev pub TakesLines : Batch → Step → Option BatchStop → Type 0
TakesLines batch step stop = (texts : List (List ℕ))
    × OfInput step.left (λ input. AnswersLines batch (stop_status stop) texts (numbered step.number (lines_of input))) × WritesUntil step stop (joined texts)

-- these bytes are the first so many lines of what begins with them
abbrev pub IsFront : ℕ → List ℕ → Type 0
IsFront count bytes = (rest : List ℕ) → drop count (lines_of (bytes ++ rest)) ≡ lines_of rest

-- so many lines are passed over, and more may come; or there are no more lines than these
abbrev pub PassesOver : ℕ → Option (List ℕ) → Option (List ℕ) → Bool → Type 0
PassesOver count before after true = (bytes : List ℕ) × IsFront count bytes × Consumes before after bytes
PassesOver count before after false = OfInput before (λ input. drop count (lines_of input) ≡ [])

-- the lines that are left out are passed over, and those behind them are taken and answered
abbrev pub TakesAnswered : Batch → Step → Option BatchStop → Type 0
TakesAnswered batch step stop = (texts : List (List ℕ))
    × OfInput step.left (λ input. AnswersLines batch (stop_status stop) texts (answered_lines batch input)) × WritesUntil step stop (joined texts)

-- the same behind a byte order mark at the beginning of the input
abbrev pub TakesInput : Batch → Step → Option BatchStop → Type 0
TakesInput batch step stop = (texts : List (List ℕ))
    × OfInput step.left (λ input. AnswersLines batch (stop_status stop) texts (answered_lines batch (without_mark input))) × WritesUntil step stop (joined texts)

-- what stops a batch at each fault of the input
abbrev pub stop_of : InputFault → BatchStop
stop_of input.ReadFailed = ReadFailed
stop_of input.TooLong = NoMemory
stop_of input.NoMemory = NoMemory
