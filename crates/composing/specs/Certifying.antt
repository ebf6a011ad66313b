-- A run of `certify`.
use Rattle.std.specs.Prelude.{◌≡◌, ◌⊎◌, ℕ, List, ◌++◌, None}
use Rattle.board.specs.Board.{PlainBoard}
use Rattle.rules.specs.declared.goal.Goal.{Goal}
use Rattle.problems.specs.declared.answer.Answer.{Answer}
use Rattle.problems.specs.Answer.{IsAnswer}
use Rattle.command_line.specs.declared.line.Limits.{Limits}
use Rattle.command_line.specs.declared.line.Subject.{Subject}
use Rattle.certifying.specs.Lines.{claim_lines}
use Rattle.refusals.specs.Reply.{refused}
use Rattle.refusals.specs.declared.refusal.Refusal.{Refusal}
use Rattle.answer_texts.specs.Answers.{answer_text}
use Rattle.refusals.specs.Outcome.{IsSoundText}
use Rattle.context.specs.Limits.{fault_of}
use Rattle.verdicts.specs.Verdict.{IsRefusedFor}
use Rattle.verifying.specs.declared.words.Word.{Word}
use Rattle.verifying.specs.Certificate.{IsCertificate}
use Rattle.context.specs.Shown.{ShowsPosition}
use Rattle.endings.specs.Run.{Ending, Run, Finishes, Refuses, no_memory}

-- the text is written, and with status 0 it is a certificate of the answer; or want of memory is told behind it; or behind it stands why the checker doesn't take what comes next: no certificate goes on so
abbrev pub EndsCertificate : Goal → PlainBoard → Answer → List ℕ → Ending → Type 0
EndsCertificate goal b answer text ending =
    (Finishes ending text 0 × (ending.status ≡ 0 → IsCertificate goal b answer text))
    ⊎ Finishes ending (text ++ no_memory) 3
    ⊎ ((why : Refusal) × (more : List ℕ) × IsRefusedFor goal b (text ++ more) why × Finishes ending (text ++ (refused why).text) (refused why).status)

-- the answer's line is written, and lines of claims behind it
abbrev pub WritesClaims : Goal → PlainBoard → Answer → Ending → Type 0
WritesClaims goal b answer ending = (lines : List (List Word)) × EndsCertificate goal b answer (answer_text goal answer ++ claim_lines lines) ending

-- the reply of `solve` is written: the answer, and claims behind it, or a refusal; or the line for want of memory
abbrev pub WritesCertificate : Subject → Limits → Ending → Type 0
WritesCertificate subject limits ending =
    ((b : PlainBoard) × (answer : Answer) × IsSoundText subject.fen.now b × (fault_of limits ≡ None) × IsAnswer subject.goal b limits.limit answer × WritesClaims subject.goal b answer ending)
    ⊎ ((why : Refusal) × ShowsPosition subject.goal limits subject.fen.now (refused why) × Refuses ending why)
    ⊎ Finishes ending no_memory 3

-- the run is one of the making of a certificate, which reads nothing
abbrev pub RunsCertify : Subject → Limits → Run → Type 0
RunsCertify subject limits run = (run.failed_reads ≡ 0) × WritesCertificate subject limits run.ending
