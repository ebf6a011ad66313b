use Rattle.std.proofs.Common.{◌∙◌, inl, inr}
use Rattle.composing.proofs.CertifyLemmas.{certificate_refused}
use Rattle.composing.proofs.running.run_certify.Goals as goal

pub write_begun-requires-clause-begun : goal.write_begun-requires-clause-begun
write_begun-requires-clause-begun g c =
    let (b, sound, (accepted, (answer, is, begins))) = c.in-Ok.ensures in
    (c.args.subject.now.goal, b, _, begins.taken)

pub returns-in-Ok-clause-runs : goal.returns-in-Ok-clause-runs
returns-in-Ok-clause-runs g c =
    let (b, sound, (accepted, (answer, is, begins))) = c.in-Ok.ensures in
    inl (b, answer, sound, accepted, is, c.write_begun.ensures.writes b answer begins)

pub returns-in-Ok-clause-silent : goal.returns-in-Ok-clause-silent
returns-in-Ok-clause-silent g c = elim c.write_begun.ensures.silent [
  | inl told ↦ inl told
  | inr same ↦ elim c.tell_if_over.ensures [
    | inl over ↦ inr (inl over)
    | inr kept ↦ inr (inr (same ∙ kept))
  ]
]

pub returns-in-Err-clause-runs : goal.returns-in-Err-clause-runs
returns-in-Err-clause-runs g c =
    certificate_refused c.args.subject.now c.args.limits _ c.in-Err.refusal c.in-Err.ensures
    (rw c.search_refused-refused.ensures at c.refuse_and_tell.ensures.refuses)
