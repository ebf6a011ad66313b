-- What `verify` writes for a certificate.
use Rattle.std.specs.Prelude.{◌≡◌, ◌⊎◌, ℕ, List, Option, Result}
use Rattle.board.specs.Board.{PlainBoard}
use Rattle.rules.specs.declared.goal.Goal.{Goal}
use Rattle.problems.specs.declared.answer.Answer.{Answer}
use Rattle.problems.specs.Answer.{IsAnswer}
use Rattle.certificates.specs.Answers.{IsUpTo}
use Rattle.verifying.specs.declared.fault.Fault.{Fault}
use Rattle.verifying.specs.declared.fault.Fault.TheVariants as certificate
use Rattle.verifying.specs.FirstLine.{HasFirstLine}
use Rattle.verifying.specs.Certificate.{IsCertificate, IsRefusedWith}
use Rattle.command_line.specs.declared.line.Subject.{Subject}
use Rattle.devices.specs.Input.{OfInput}
use Rattle.refusals.specs.Reply.{Reply, answered, refused}
use Rattle.answer_texts.specs.Answers.{answer_text}
use Rattle.refusals.specs.Outcome.{IsReplyAt, GivesIfRead}
use Rattle.refusals.specs.declared.refusal.Refusal.{Refusal}
use Rattle.refusals.specs.declared.refusal.Refusal.TheVariants as refusal
use Rattle.refusals.specs.declared.reply_fault.ReplyFault.{ReplyFault}
use Rattle.refusals.specs.declared.reply_fault.ReplyFault.TheVariants.{Refused, ReadFailed}

-- it is the answer up to each limit that fits, the text begins with it, and is a certificate of it
abbrev pub IsProved : Goal → PlainBoard → List ℕ → Answer → Type 0
IsProved goal b text answer = ((limit : ℕ) → IsUpTo limit answer → IsAnswer goal b limit answer) × HasFirstLine goal answer text × IsCertificate goal b answer text

-- what a fault of a certificate is of a reply
abbrev pub reply_fault_of_certificate : Fault → ReplyFault
reply_fault_of_certificate certificate.Answer = Refused refusal.Answer
reply_fault_of_certificate (certificate.Claim line) = Refused (refusal.Claim line)
reply_fault_of_certificate certificate.TooLong = Refused refusal.TooLong
reply_fault_of_certificate certificate.NoMemory = Refused refusal.NoMemory
reply_fault_of_certificate certificate.ReadFailed = ReadFailed

-- the refusals of a certificate's text, and what each tells of it: it is a certificate of no answer
abbrev pub IsRefusedFor : Goal → PlainBoard → List ℕ → Refusal → Type 0
IsRefusedFor goal b text refusal.Answer = IsRefusedWith goal b certificate.Answer text
IsRefusedFor goal b text (refusal.Claim line) = IsRefusedWith goal b (certificate.Claim line) text
IsRefusedFor goal b text refusal.TooLong = IsRefusedWith goal b certificate.TooLong text
IsRefusedFor goal b text _ = ⊥

-- the answer that a text proves; or a refusal of it
abbrev pub ShowsProved : Goal → PlainBoard → List ℕ → Reply → Type 0
ShowsProved goal b text reply =
    ((answer : Answer) × IsProved goal b text answer × (reply ≡ answered (answer_text goal answer)))
    ⊎ ((why : Refusal) × IsRefusedFor goal b text why × (reply ≡ refused why))

-- the same at the sound position of the subject's text, or the refusal of the text's fault
abbrev pub IsVerdict : Subject → List ℕ → Reply → Type 0
IsVerdict subject input reply = IsReplyAt subject.fen.now (λ b. ShowsProved subject.goal b input) reply

-- a reply to the certificate that is read
abbrev pub GivesVerdict : {B : Type 0} → (B → List ℕ) → Subject → Option (List ℕ) → Result B ReplyFault → Type 0
GivesVerdict bytes subject known result = OfInput known (λ input. GivesIfRead bytes (IsVerdict subject input) result)
