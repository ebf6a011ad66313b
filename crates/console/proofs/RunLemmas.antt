-- A run, from how its text was written.
use Rattle.std.proofs.Common.{◌≡◌, ◌≢◌, ◌⊎◌, inl, inr, refl, arith, subst, ◌∙◌}
use Rattle.devices.specs.Input.{OfInput}
use Rattle.replies.specs.Output.{input_of, IsOutput}
use Rattle.refusals.specs.Reply.{Reply, refused}
use Rattle.refusals.specs.Refusal.{refusal_status}
use Rattle.refusals.specs.declared.refusal.Refusal.{Refusal}
use Rattle.refusals.specs.declared.refusal.Refusal.TheVariants.{Fields, Shape, Letter, Run as RunOfDigits, Side, Kings, Units, PawnRank, OtherInCheck, Move, Limit, Workers, Slots, TooLong, Grammar, Deep, Answer, Claim, NoMemory}
use Rattle.endings.specs.Run.{Run, Writes, no_memory, Finishes, Refuses}
use Rattle.console.specs.Run.{HasReply, RunsLine}
use Rattle.command_line.specs.declared.line.Line.{Line}
use Rattle.devices.proofs.InputLemmas.{of_input_then}

-- a run that wrote a reply of status 0 or 1
pub run_of_reply : (line : Line) (run : Run) (reply : Reply) → run.failed_reads ≡ 0
    → (reply.status ≡ 0) ⊎ (reply.status ≡ 1) → OfInput (input_of line.action run.input) (λ input. IsOutput line input reply)
    → Finishes run.ending reply.text reply.status → RunsLine line run
run_of_reply line run reply unread asked known (inl whole) =
    let is_reply : HasReply line run (λ r. (run.ending.status ≡ r.status) × Writes run.ending r.text) =
    of_input_then (input_of line.action run.input) _ _ known (λ input is. (reply, is, (whole.2, whole.0))) in
    let none = whole.1 in
    let same = whole.2 in
    record {
      status_known = elim asked [ inl e ↦ inl (same ∙ e) | inr e ↦ inr (inl (same ∙ e)) ];
      answered = λ _. is_reply;
      out_of_memory = λ e. absurd (elim asked [ inl a ↦ omega arith | inr a ↦ omega arith ]);
      failed = (λ e. absurd (elim asked [ inl a ↦ omega arith | inr a ↦ omega arith ]), λ h. absurd (omega arith));
      once = omega arith;
      failed_read = λ h. absurd (omega arith);
      failed_write = λ h. absurd (omega arith);
    }
run_of_reply line run reply unread asked known (inr cut) =
    let one = cut.1 in
    let four = cut.2 in
    record {
      status_known = inr (inr (inr four));
      answered = λ e. absurd (elim e [ inl a ↦ omega arith | inr a ↦ omega arith ]);
      out_of_memory = λ e. absurd (omega arith);
      failed = (λ e. omega arith, λ h. four);
      once = omega arith;
      failed_read = λ h. absurd (omega arith);
      failed_write = λ h. inr (of_input_then (input_of line.action run.input) _ _ known (λ input is. (reply, is, cut.0)));
    }

-- a run that wrote the line for want of memory
pub run_of_no_memory : (line : Line) (run : Run) → run.failed_reads ≡ 0
    → Finishes run.ending no_memory 3 → RunsLine line run
run_of_no_memory line run unread (inl whole) =
    let none = whole.1 in
    let three = whole.2 in
    record {
      status_known = inr (inr (inl three));
      answered = λ e. absurd (elim e [ inl a ↦ omega arith | inr a ↦ omega arith ]);
      out_of_memory = λ e. whole.0;
      failed = (λ e. absurd (omega arith), λ h. absurd (omega arith));
      once = omega arith;
      failed_read = λ h. absurd (omega arith);
      failed_write = λ h. absurd (omega arith);
    }
run_of_no_memory line run unread (inr cut) =
    let one = cut.1 in
    let four = cut.2 in
    record {
      status_known = inr (inr (inr four));
      answered = λ e. absurd (elim e [ inl a ↦ omega arith | inr a ↦ omega arith ]);
      out_of_memory = λ e. absurd (omega arith);
      failed = (λ e. omega arith, λ h. four);
      once = omega arith;
      failed_read = λ h. absurd (omega arith);
      failed_write = λ h. inl cut.0;
    }

-- all refusals but `NoMemory` end with status 1
refusal_cases : (refusal : Refusal) → (refusal ≡ NoMemory) ⊎ ((refusal ≢ NoMemory) × (refusal_status refusal ≡ 1))
refusal_cases Fields = inr (λ e. cc, refl)
refusal_cases Shape = inr (λ e. cc, refl)
refusal_cases Letter = inr (λ e. cc, refl)
refusal_cases RunOfDigits = inr (λ e. cc, refl)
refusal_cases Side = inr (λ e. cc, refl)
refusal_cases Kings = inr (λ e. cc, refl)
refusal_cases Units = inr (λ e. cc, refl)
refusal_cases PawnRank = inr (λ e. cc, refl)
refusal_cases OtherInCheck = inr (λ e. cc, refl)
refusal_cases Move = inr (λ e. cc, refl)
refusal_cases Limit = inr (λ e. cc, refl)
refusal_cases Workers = inr (λ e. cc, refl)
refusal_cases Slots = inr (λ e. cc, refl)
refusal_cases TooLong = inr (λ e. cc, refl)
refusal_cases (Grammar offset) = inr (λ e. cc, refl)
refusal_cases Deep = inr (λ e. cc, refl)
refusal_cases Answer = inr (λ e. cc, refl)
refusal_cases (Claim line) = inr (λ e. cc, refl)
refusal_cases NoMemory = inl refl

-- a run that wrote a refusal, or the line for want of memory
pub run_of_refusal : (line : Line) (run : Run) (refusal : Refusal) → run.failed_reads ≡ 0
    → OfInput (input_of line.action run.input) (λ input. (refusal ≡ NoMemory) ⊎ IsOutput line input (refused refusal))
    → Refuses run.ending refusal → RunsLine line run
run_of_refusal line run refusal unread known (inr wrote) = run_of_no_memory line run unread wrote
run_of_refusal line run refusal unread known (inl wrote) = elim (refusal_cases refusal) [
  | inl is ↦ run_of_no_memory line run unread
      (subst (λ r. Finishes run.ending (refused r).text (refused r).status) is wrote)
  | inr other ↦ run_of_reply line run (refused refusal) unread (inr other.1)
      (of_input_then (input_of line.action run.input) _ _ known (λ input is. elim is [ inl e ↦ absurd (other.0 e) | inr output ↦ output ])) wrote
]
