-- The reply to a certificate.
use Rattle.std.proofs.Common.{◌≡◌, ◌∙◌, List, ℕ, [], ◌∷◌, ◌++◌, codes, Option, Result, Ok, Err, IsErr, IsErrAnd, inl, inr, refl, ap, sym, subst, append_assoc, ◌⊎◌}
use Rattle.std.specs.Fmt.{decimal}
use Rattle.board.specs.Board.{PlainBoard}
use Rattle.board.specs.declared.fault.FenFault.{FenFault}
use Rattle.rules.specs.Reading.{IsSoundFault}
use Rattle.rules.specs.declared.goal.Goal.{Goal}
use Rattle.rules.specs.declared.goal.Goal.TheVariants as goal
use Rattle.rules.specs.MoveText.{move_text}
use Rattle.problems.specs.declared.answer.Answer.{Answer}
use Rattle.problems.specs.declared.answer.Answer.TheVariants.{Mate, NoneWithin}
use Rattle.problems.specs.Answer.{IsAnswer}
use Rattle.certificates.specs.Answers.{IsUpTo}
use Rattle.verifying.specs.declared.fault.Fault.{Fault}
use Rattle.verifying.specs.declared.fault.Fault.TheVariants as certificate
use Rattle.verifying.specs.Certificate.{IsCertificate, IsRefusedWith}
use Rattle.verifying.specs.FirstLine.{first_line}
use Rattle.verifying.proofs.Refused.{certificate_begins}
use Rattle.refusals.specs.declared.refusal.Refusal.TheVariants as refusal
use Rattle.command_line.specs.declared.line.Subject.{Subject}
use Rattle.devices.specs.Input.{OfInput}
use Rattle.refusals.specs.Outcome.{GivesIfRead, IsSoundText}
use Rattle.refusals.specs.Reply.{Reply, answered, refused}
use Rattle.answer_texts.specs.Answers.{answer_text}
use Rattle.refusals.specs.Refusal.{refusal_of_fen}
use Rattle.verdicts.specs.Verdict.{ShowsProved, IsVerdict, GivesVerdict, reply_fault_of_certificate}
use Rattle.refusals.specs.declared.reply_fault.ReplyFault.{ReplyFault}
use Rattle.refusals.specs.declared.reply_fault.ReplyFault.TheVariants.{Refused, ReadFailed}
use Rattle.refusals.proofs.OutcomeLemmas.{refusal_gives}
use Rattle.devices.proofs.InputLemmas.{of_any, of_input_then}
use Rattle.refusals.specs.declared.refusal.Refusal.{Refusal}
use Rattle.refusals.specs.declared.refusal.Refusal.TheVariants.{NoMemory}
use Rattle.endings.specs.Run.{Run, Finishes, Refuses}
use Rattle.verdicts.specs.Verifying.{RunsVerify}

-- what is given is given for what follows of it
gives_weaker : {B : Type 0} (bytes : B → List ℕ) (P Q : Reply → Type 0) (r : Result B ReplyFault) → ((reply : Reply) → P reply → Q reply) → GivesIfRead bytes P r
    → GivesIfRead bytes Q r
gives_weaker bytes P Q (Ok text) so gives = so (answered (bytes text)) gives
gives_weaker bytes P Q (Err (Refused why)) so (inl none) = inl none
gives_weaker bytes P Q (Err (Refused why)) so (inr shows) = inr (so (refused why) shows)
gives_weaker bytes P Q (Err ReadFailed) so gives = tt

-- what is shown at the sound position of the subject is the verdict
pub verdict_at : {B : Type 0} (bytes : B → List ℕ) (subject : Subject) (known : Option (List ℕ)) (b : PlainBoard) (r : Result B ReplyFault) → IsSoundText subject.fen.now b
    → OfInput known (λ input. GivesIfRead bytes (ShowsProved subject.goal b input) r) → GivesVerdict bytes subject known r
verdict_at bytes subject known b r sound gives = of_input_then known _ _ gives
    (λ input one. gives_weaker bytes (ShowsProved subject.goal b input) (IsVerdict subject input) r (λ reply shows. inl (b, sound, shows)) one)

-- and so is the refusal of the text's fault, whatever the input
pub verdict_fault : {B : Type 0} (bytes : B → List ℕ) (subject : Subject) (known : Option (List ℕ)) (r : Result B ReplyFault) (fault : FenFault)
    → IsSoundFault subject.fen.now fault → IsErr r × IsErrAnd r (λ told. told ≡ Refused (refusal_of_fen fault)) → GivesVerdict bytes subject known r
verdict_fault bytes subject known r fault is err =
    of_any known _ (λ input. refusal_gives bytes (IsVerdict subject input) r (refusal_of_fen fault) (inr (inr (fault, is, refl))) err)

-- the answer of which the input is a certificate is shown
pub answer_shown : {B : Type 0} (bytes : B → List ℕ) (goal : Goal) (b : PlainBoard) (known : Option (List ℕ)) (answer : Answer) (text : B) → ((limit : ℕ) → IsUpTo limit answer → IsAnswer goal b limit answer)
    → OfInput known (IsCertificate goal b answer) → bytes text ≡ answer_text goal answer → OfInput known (λ input. GivesIfRead bytes (ShowsProved goal b input) (Ok text))
answer_shown bytes goal b known answer text right proves is = of_input_then known _ _ proves
    (λ input one. inl (answer, (right, certificate_begins goal b answer input one, one), ap answered is))

-- and so is what a fault tells
pub fault_shown : {B : Type 0} (bytes : B → List ℕ) (goal : Goal) (b : PlainBoard) (known : Option (List ℕ)) (fault : Fault) (told : ReplyFault) → ((fault ≡ certificate.NoMemory → ⊥) → (fault ≡ certificate.ReadFailed → ⊥) → OfInput known (IsRefusedWith goal b fault)) → told ≡ reply_fault_of_certificate fault
    → OfInput known (λ input. GivesIfRead bytes (ShowsProved goal b input) (Err told))
fault_shown bytes goal b known fault told tells is = subst (λ (t : ReplyFault). OfInput known (λ input. GivesIfRead bytes (ShowsProved goal b input) (Err t))) (sym is) (of_fault fault tells)
  where
    of_fault : (fault : Fault) → ((fault ≡ certificate.NoMemory → ⊥) → (fault ≡ certificate.ReadFailed → ⊥) → OfInput known (IsRefusedWith goal b fault)) → OfInput known (λ input. GivesIfRead bytes (ShowsProved goal b input) (Err (reply_fault_of_certificate fault)))
    of_fault certificate.Answer tells = of_input_then known _ _ (tells (λ e. cc) (λ e. cc)) (λ input one. inr (inr (refusal.Answer, one, refl)))
    of_fault (certificate.Claim line) tells = of_input_then known _ _ (tells (λ e. cc) (λ e. cc)) (λ input one. inr (inr (refusal.Claim line, one, refl)))
    of_fault certificate.TooLong tells = of_input_then known _ _ (tells (λ e. cc) (λ e. cc)) (λ input one. inr (inr (refusal.TooLong, one, refl)))
    of_fault certificate.NoMemory tells = of_any known _ (λ input. inl refl)
    of_fault certificate.ReadFailed tells = of_any known _ (λ input. tt)

mate_line : (word : List ℕ) (plies : ℕ) (name : List ℕ) → (word ++ (decimal plies ++ 32 ∷ name)) ++ 10 ∷ [] ≡ word ++ (decimal plies ++ (32 ∷ (name ++ 10 ∷ [])))
mate_line word plies name = append_assoc word (decimal plies ++ 32 ∷ name) (10 ∷ []) ∙ ap (λ (l : List ℕ). word ++ l) (append_assoc (decimal plies) (32 ∷ name) (10 ∷ []))

-- the answer as `solve` prints it is a certificate's first line, with its feed
pub answer_line : (goal : Goal) (answer : Answer) → answer_text goal answer ≡ first_line goal answer ++ 10 ∷ []
answer_line goal.Mate (Mate plies first) = sym (mate_line (codes "mate ") plies (move_text first))
answer_line goal.MateOrStale (Mate plies first) = sym (mate_line (codes "goal ") plies (move_text first))
answer_line goal.Mate (NoneWithin limit) = sym (append_assoc (codes "none within ") (decimal limit) (10 ∷ []))
answer_line goal.MateOrStale (NoneWithin limit) = sym (append_assoc (codes "none within ") (decimal limit) (10 ∷ []))

-- a run that wrote a refusal of a certificate, or the line for want of memory
pub verify_refused : (subject : Subject) (run : Run) (refusal : Refusal) → run.failed_reads ≡ 0
    → OfInput run.input (λ input. (refusal ≡ NoMemory) ⊎ IsVerdict subject input (refused refusal))
    → Refuses run.ending refusal → RunsVerify subject run
verify_refused subject run refusal unread known (inr wrote) = inr (inl (unread, wrote))
verify_refused subject run refusal unread (input, same, inl is) (inl wrote) =
    inr (inl (unread, subst (λ r. Finishes run.ending (refused r).text (refused r).status) is wrote))
verify_refused subject run refusal unread (input, same, inr verdict) (inl wrote) = inl (unread, (input, same, (refused refusal, verdict, wrote)))
