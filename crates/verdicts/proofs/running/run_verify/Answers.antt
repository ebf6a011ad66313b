use Rattle.std.proofs.Common.{inl, inr, arith}
use Rattle.std.proofs.KnownBytes.{Appends-nil}
use Rattle.refusals.specs.Reply.{answered}
use Rattle.verdicts.proofs.VerdictLemmas.{verify_refused}
use Rattle.verdicts.proofs.running.run_verify.Goals as goal
use Rattle.devices.proofs.InputLemmas.{of_input_then}

pub returns-in-Ok-clause-runs : goal.returns-in-Ok-clause-runs
returns-in-Ok-clause-runs g c =
    let verdict = c.in-Ok.ensures in
    inl (
      omega (arith, verdict.counts),
      of_input_then _ _ _ verdict.given (λ input is.
          (answered c.in-Ok.text.items, is, rw (← c.as_slice.ensures.value) c.finish.ensures.written)),
    )

pub returns-in-Err-Refused-clause-runs : goal.returns-in-Err-Refused-clause-runs
returns-in-Err-Refused-clause-runs g c =
    let refused = c.in-Err-Refused in
    verify_refused c.args.subject.now _ refused.refusal (omega (arith, rw refused.field-0-is at refused.ensures.counts))
    (rw refused.field-0-is at refused.ensures.given) (rw c.proof_refused-refused.ensures at c.refuse_and_tell.ensures.refuses)

pub returns-in-Err-ReadFailed-clause-runs : goal.returns-in-Err-ReadFailed-clause-runs
returns-in-Err-ReadFailed-clause-runs g c =
    let failed = c.in-Err-ReadFailed in
    inr (inr (omega (arith, rw failed.field-0-is at failed.ensures.counts), omega arith, c.fail_to_read.ensures, Appends-nil _))
