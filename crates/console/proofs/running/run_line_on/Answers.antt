use Rattle.std.proofs.Common.{◌∙◌, inl, inr, refl, arith}
use Rattle.refusals.specs.Reply.{answered}
use Rattle.console.proofs.RunLemmas.{run_of_reply, run_of_refusal}
use Rattle.console.proofs.running.run_line_on.Goals as goal

pub returns-in-Ok-clause-runs : goal.returns-in-Ok-clause-runs
returns-in-Ok-clause-runs g c =
    let reply = c.in-Ok.ensures in
    run_of_reply c.args.line.now _ (answered c.in-Ok.text.items) (omega (arith, reply.counts)) (inl refl) reply.given
    (rw (← c.as_slice.ensures.value) c.finish.ensures.written)

pub returns-in-Ok-clause-silent : goal.returns-in-Ok-clause-silent
returns-in-Ok-clause-silent g c = elim c.in-Ok.ensures.silent [
  | inl check ↦ inr (inl (inr check))
  | inr untold ↦ elim c.finish.ensures.silent [
    | inl failed ↦ inl (inr failed)
    | inr same ↦ elim c.tell_if_line_is_over.ensures [
      | inl over ↦ inr (inl (inl over))
      | inr kept ↦ inr (inr (same ∙ kept ∙ untold))
    ]
  ]
]

pub returns-in-Err-Refused-clause-silent : goal.returns-in-Err-Refused-clause-silent
returns-in-Err-Refused-clause-silent g c = elim c.in-Err-Refused.ensures.silent [
  | inl check ↦ inr (inl (inr check))
  | inr untold ↦ elim c.refuse_and_tell.ensures.silent [
    | inl told ↦ inl told
    | inr same ↦ inr (inr (same ∙ untold))
  ]
]

pub returns-in-Err-Refused-clause-runs : goal.returns-in-Err-Refused-clause-runs
returns-in-Err-Refused-clause-runs g c =
    let refused = c.in-Err-Refused in
    run_of_refusal c.args.line.now _ refused.refusal (omega (arith, rw refused.field-0-is at refused.ensures.counts))
    (rw refused.field-0-is at refused.ensures.given) c.refuse_and_tell.ensures.refuses
