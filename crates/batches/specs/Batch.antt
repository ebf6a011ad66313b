-- A batch: what is written for the lines of an input.
use Rattle.std.specs.Prelude.{◌≡◌, ◌⊎◌, ◌==◌, ◌&&◌, ◌||◌, ℕ, ◌+◌, ◌-◌, ◌^◌, min, Bool, true, false, Option, None, Some, not, List, [], ◌∷◌, ◌++◌, length, drop, nat_lt, if◌then◌else◌, MatchBool, MatchOption, codes}
use Rattle.std.specs.List.{AllZip, flat_map}
use Rattle.std.specs.Fmt.{decimal}
use Rattle.board.specs.Board.{PlainBoard}
use Rattle.board.specs.declared.fault.FenFault.{FenFault}
use Rattle.rules.specs.Reading.{IsSoundFault}
use Rattle.devices.specs.Input.{OfInput, without_line_feed}
use Rattle.input_lines.specs.Mark.{without_mark}
use Rattle.refusals.specs.Outcome.{IsSoundText}
use Rattle.context.specs.Limits.{fault_of, refusal_of_solve}
use Rattle.refusals.specs.Reply.{line_of}
use Rattle.refusals.specs.Refusal.{refusal_of_fen, refusal_status}
use Rattle.refusals.specs.declared.refusal.Refusal.{Refusal}
use Rattle.refusals.specs.declared.refusal.Refusal.TheVariants.{NoMemory, TooLong}
use Rattle.batch_texts.specs.Said.{is_remark, said_in}
use Rattle.batch_texts.specs.Asking.{IsAskedIn, IsFoundAt, limit_of, with_plies}
use Rattle.batch_texts.specs.Forms.{IsFoundText, IsRefusalText, refused_object}
use Rattle.batch_texts.specs.declared.asked.Asked.{Asked}
use Rattle.batch_texts.specs.declared.asked.Batch.{Batch}
use Rattle.batch_texts.specs.declared.asked.Found.{Found}
use Rattle.endings.specs.Run.{Ending, Run, Finishes, no_memory, EndsUnread}

-- ---- lines

-- a byte goes onto the first of the lines
abbrev pub onto : ℕ → List (List ℕ) → List (List ℕ)
onto x [] = (x ∷ []) ∷ []
onto x (line ∷ lines) = (x ∷ line) ∷ lines

-- the lines of the bytes, each with its line feed, if it has one
abbrev pub lines_of : List ℕ → List (List ℕ)
lines_of [] = []
lines_of (x ∷ xs) = if x == 10 then (x ∷ []) ∷ lines_of xs else onto x (lines_of xs)

-- the number of the next line; it stays at the greatest of 64 bits
abbrev pub next_number : ℕ → ℕ
next_number number = min (number + 1) (2 ^ 64 - 1)

-- the lines with their numbers, behind a line of this number
abbrev pub numbered : ℕ → List (List ℕ) → List (ℕ × List ℕ)
numbered number [] = []
numbered number (line ∷ lines) = (next_number number, line) ∷ numbered (next_number number) lines

-- ---- replies

-- what is written for a position: what was found of it, or the refusal of the limit
abbrev pub IsFoundReply : Batch → Asked → PlainBoard → List ℕ → Type 0
IsFoundReply batch asked b text =
    let limits = with_plies batch.limits (limit_of batch.limits.limit asked.moves) in
    MatchOption (fault_of limits)
    ((found : Found) × IsFoundAt batch.options.keys batch.goal b limits.limit found × IsFoundText batch asked found text)
    (λ fault. IsRefusalText batch.options.json (Some asked.fen.now) (refusal_of_solve fault) text)

-- the same at the sound position of the text, or the refusal of the text's fault
abbrev pub IsAskedReply : Batch → Asked → List ℕ → Type 0
IsAskedReply batch asked text =
    ((b : PlainBoard) × IsSoundText asked.fen.now b × IsFoundReply batch asked b text)
    ⊎ ((fault : FenFault) × IsSoundFault asked.fen.now fault × IsRefusalText batch.options.json (Some asked.fen.now) (refusal_of_fen fault) text)

-- what is written for a remark: the line as it is, and nothing among JSON
abbrev pub remark_text : Batch → List ℕ → List ℕ
remark_text batch said = if batch.options.json then [] else line_of said

-- what is written for what a line says: for a remark, or for what it asks
abbrev pub IsReplyText : Batch → List ℕ → List ℕ → Type 0
IsReplyText batch said text =
    MatchBool (is_remark said) (text ≡ remark_text batch said) ((asked : Asked) × IsAskedIn said asked × IsAskedReply batch asked text)

-- a text with the position before it, and a tab, where that is asked for; a remark and JSON as they are
abbrev pub with_position : Batch → List ℕ → List ℕ → List ℕ
with_position batch said text = if batch.options.echo && not (batch.options.json || is_remark said) then said ++ (9 ∷ text) else text

-- what is written for what a line says, with the options that were asked for
abbrev pub HasReplyText : Batch → List ℕ → List ℕ → Type 0
HasReplyText batch said text = (plain : List ℕ) × IsReplyText batch said plain × (text ≡ with_position batch said plain)

-- what is written for a line, but its number; one of more than 256 bytes, its feed not counted, is too long
abbrev pub IsUnnumberedReply : Batch → List ℕ → List ℕ → Type 0
IsUnnumberedReply batch line text =
    MatchBool (nat_lt 256 (length (without_line_feed line))) (IsRefusalText batch.options.json None TooLong text) (HasReplyText batch (said_in line) text)

-- an object of JSON with the number of its line as its first member; other texts, and nothing, as they are
abbrev pub with_number : Bool → ℕ → List ℕ → List ℕ
with_number true number (brace ∷ members) = codes "{\"line\":" ++ (decimal number ++ (codes "," ++ members))
with_number _ number text = text

-- what is written for a line of this number
abbrev pub IsLineReply : Batch → ℕ × List ℕ → List ℕ → Type 0
IsLineReply batch line text = (plain : List ℕ) × IsUnnumberedReply batch line.1 plain × (text ≡ with_number batch.options.json line.0 plain)

-- the texts, all in one
abbrev pub joined : List (List ℕ) → List ℕ
joined texts = flat_map (λ text. text) texts

-- ---- a run

-- how many lines at the beginning of the input are left out
abbrev pub left_out : Option ℕ → ℕ
left_out None = 0
left_out (Some count) = count

-- the lines of the input that are answered, with their numbers: all but those at its beginning that are left out
abbrev pub answered_lines : Batch → List ℕ → List (ℕ × List ℕ)
answered_lines batch input = let count = left_out batch.options.skip in numbered count (drop count (lines_of input))

-- the texts are the replies to the first of the lines, one each, and to all of them where the status is 0
abbrev pub AnswersLines : Batch → ℕ → List (List ℕ) → List (ℕ × List ℕ) → Type 0
AnswersLines batch status texts lines =
    (front : List (ℕ × List ℕ)) × (rest : List (ℕ × List ℕ)) × (lines ≡ front ++ rest) × AllZip (IsLineReply batch) front texts
    × (status ≡ 0 → rest ≡ [])

-- what is written for want of memory: a line, or an object among JSON
abbrev pub wanting_text : Bool → List ℕ
wanting_text false = no_memory
wanting_text true = refused_object None NoMemory (codes "out of memory")

-- how the writing of the text ended: well, by a failed read, or for want of memory; the first and the last perhaps by a failed write
abbrev pub EndsBatch : Bool → Run → List ℕ → Type 0
EndsBatch json run text =
    ((run.failed_reads ≡ 0) × Finishes run.ending text 0) ⊎ EndsUnread run text ⊎ ((run.failed_reads ≡ 0) × Finishes run.ending (text ++ wanting_text json) 3)

-- how the refusal of a whole batch was written: as it is, which stands at no line, or as want of memory
abbrev pub RefusesBatch : Bool → Ending → Refusal → Type 0
RefusesBatch json ending why =
    ((text : List ℕ) × IsRefusalText json None why text × Finishes ending text (refusal_status why)) ⊎ Finishes ending (wanting_text json) 3

-- the run is one of the batch: the limits are refused, or the lines behind a byte order mark are answered as far as it came
abbrev pub RunsBatch : Batch → Run → Type 0
RunsBatch batch run = MatchOption (fault_of batch.limits)
    ((texts : List (List ℕ))
    × OfInput run.input (λ input. AnswersLines batch run.ending.status texts (answered_lines batch (without_mark input)))
    × EndsBatch batch.options.json run (joined texts))
    (λ fault. (run.failed_reads ≡ 0) × RefusesBatch batch.options.json run.ending (refusal_of_solve fault))
