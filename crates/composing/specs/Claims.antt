-- The steps of the writing of a certificate.
use Rattle.std.specs.Prelude.{◌≡◌, ◌⊎◌, ◌+◌, ◌++◌, ◌∷◌, [], ℕ, List, Bool, true, false, Option, None, Some, Result, Ok, Err, vec_items}
use Rattle.std.specs.declared.alloc.Global.{Global}
use Rattle.std.specs.Io.KnownBytes.{Appends}
use Rattle.board.specs.Board.{PlainBoard}
use Rattle.rules.specs.declared.goal.Goal.{Goal}
use Rattle.problems.specs.declared.answer.Answer.{Answer}
use Rattle.problems.specs.Answer.{IsAnswer}
use Rattle.devices.specs.Device.{AppendsBeginning}
use Rattle.command_line.specs.declared.line.Limits.{Limits}
use Rattle.command_line.specs.declared.line.Subject.{Subject}
use Rattle.certifying.specs.Lines.{claim_lines}
use Rattle.certifying.specs.Making.{IsSpent}
use Rattle.certifying.specs.declared.certificate.Certificate.{Certificate}
use Rattle.verifying.specs.declared.checker.Checker.{Checker}
use Rattle.verifying.specs.declared.fault.Fault.{Fault}
use Rattle.verifying.specs.declared.fault.Fault.TheVariants as certificate
use Rattle.verifying.specs.declared.words.Word.{Word}
use Rattle.verifying.specs.Certificate.{IsCertificate}
use Rattle.verifying.specs.Checking.{HasTakenText, TakesMore}
use Rattle.verifying.specs.FirstLine.{IsInRange, HasNamedMove}
use Rattle.verifying.specs.Words.{words_line}
use Rattle.refusals.specs.Reply.{refused}
use Rattle.refusals.specs.declared.refusal.Refusal.{Refusal}
use Rattle.refusals.specs.declared.refusal.Refusal.TheVariants as refusal
use Rattle.answer_texts.specs.Answers.{answer_text}
use Rattle.refusals.specs.Outcome.{IsSoundText}
use Rattle.context.specs.Shown.{ShowsAnswer}
use Rattle.context.specs.Limits.{fault_of}
use Rattle.verdicts.specs.Verdict.{IsRefusedFor}
use Rattle.context.specs.Shown.{ShowsPosition}
use Rattle.composing.specs.declared.certificate.Begun.{Begun}
use Rattle.composing.specs.declared.certificate.Cut.{Cut}
use Rattle.composing.specs.declared.certificate.Cut.TheVariants.{WriteFailed, NoMemory, Refused}

-- ---- the first line

-- the answer's line is there, and the checker has taken it
pub record HasAnswerLine (goal : Goal) (b : PlainBoard) (answer : Answer) (begun : Begun) : Type 0 where
  pub range : IsInRange answer
  pub named : HasNamedMove answer
  pub line : vec_items begun.line ≡ answer_text goal answer
  pub taken : HasTakenText goal b begun.certificate.checker (answer_text goal answer)

-- a certificate of the answer within the limit is begun, or the reply of `solve` is this refusal, or memory is wanting
abbrev pub BeginsAt : Goal → PlainBoard → Limits → Result Begun Refusal → Type 0
BeginsAt goal b limits (Ok begun) = (fault_of limits ≡ None) × ((answer : Answer) × IsAnswer goal b limits.limit answer × HasAnswerLine goal b answer begun)
BeginsAt goal b limits (Err why) = (why ≡ refusal.NoMemory) ⊎ ShowsAnswer goal b limits (refused why)

-- the same at the sound position of the subject's text
abbrev pub BeginsCertificate : Subject → Limits → Result Begun Refusal → Type 0
BeginsCertificate subject limits (Ok begun) = (b : PlainBoard) × IsSoundText subject.fen.now b × BeginsAt subject.goal b limits (Ok begun)
BeginsCertificate subject limits (Err why) = (why ≡ refusal.NoMemory) ⊎ ShowsPosition subject.goal limits subject.fen.now (refused why)

-- ---- the lines of claims

-- what a writer had before and after, where it tells, and how many of its writes had failed
pub record Writing : Type 0 where
  pub before : Option (List ℕ)
  pub after : Option (List ℕ)
  pub failed_before : ℕ
  pub failed_after : ℕ

abbrev pub writing_of : {K : Type 0} → (K → Option (List ℕ)) → (K → ℕ) → K → K → Writing
writing_of contents failures old new = record {
  before = contents old;
  after = contents new;
  failed_before = failures old;
  failed_after = failures new;
}

-- these lines of claims were written, and nothing failed
abbrev pub WritesLines : Writing → List (List Word) → Type 0
WritesLines w lines = Appends w.before w.after (claim_lines lines) × (w.failed_after ≡ w.failed_before)

-- lines of claims were written, and the checker has taken them
abbrev pub AddsClaims : Checker Global → Checker Global → Writing → Type 0
AddsClaims old new w = (lines : List (List Word)) × WritesLines w lines × TakesMore old new (claim_lines lines)

-- lines of claims were written, and make a certificate of what the checker had taken
abbrev pub AddsAll : Checker Global → Writing → Type 0
AddsAll old w = (lines : List (List Word)) × WritesLines w lines
    × ((goal : Goal) (b : PlainBoard) (text : List ℕ) → HasTakenText goal b old text → (answer : Answer) × IsCertificate goal b answer (text ++ claim_lines lines))

-- a beginning of lines of claims was written, and then a write failed
abbrev pub CutsClaims : Writing → Type 0
CutsClaims w = (lines : List (List Word)) × AppendsBeginning w.before w.after (claim_lines lines) × (w.failed_after ≡ w.failed_before + 1)

-- behind what the checker had taken and these lines, this text is refused
abbrev pub RefusesBehind : Checker Global → List (List Word) → List ℕ → Refusal → Type 0
RefusesBehind old lines more why = (goal : Goal) (b : PlainBoard) (text : List ℕ) → HasTakenText goal b old text → IsRefusedFor goal b ((text ++ claim_lines lines) ++ more) why

-- behind these lines a line of claims is refused, whatever comes behind it; or the end is, where the maker has no line more
abbrev pub RefusesNextBehind : Checker Global → Certificate → List (List Word) → Refusal → Type 0
RefusesNextBehind old maker lines why =
    ((words : List Word) × ((rest : List ℕ) → RefusesBehind old lines (words_line words ++ 10 ∷ rest) why))
    ⊎ (IsSpent maker × RefusesBehind old lines [] why)

-- how the writing of lines was cut off
abbrev pub StopsClaims : Checker Global → Certificate → Writing → Cut → Type 0
StopsClaims old maker w WriteFailed = CutsClaims w
StopsClaims old maker w NoMemory = (lines : List (List Word)) × WritesLines w lines
StopsClaims old maker w (Refused why) = (lines : List (List Word)) × WritesLines w lines × RefusesNextBehind old maker lines why

-- how each fault of the checker cuts them off
abbrev pub cut_of : Fault → Cut
cut_of certificate.Answer = Refused refusal.Answer
cut_of (certificate.Claim line) = Refused (refusal.Claim line)
cut_of certificate.TooLong = Refused refusal.TooLong
cut_of certificate.NoMemory = NoMemory
cut_of certificate.ReadFailed = NoMemory

-- how a step ended
abbrev pub EndsWriting : Checker Global → Checker Global → Certificate → Writing → Result Bool Cut → Type 0
EndsWriting old new maker w (Ok true) = AddsClaims old new w
EndsWriting old new maker w (Ok false) = AddsAll old w
EndsWriting old new maker w (Err cut) = StopsClaims old maker w cut

-- how all steps ended
abbrev pub EndsClaims : Checker Global → Certificate → Writing → Option Cut → Type 0
EndsClaims old maker w None = AddsAll old w
EndsClaims old maker w (Some cut) = StopsClaims old maker w cut
