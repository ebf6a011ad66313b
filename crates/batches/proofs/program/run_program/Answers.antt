use Rattle.std.proofs.Common.{inl, inr}
use Rattle.batches.proofs.program.run_program.Goals as goal

pub returns-in-Ok-clause-runs : goal.returns-in-Ok-clause-runs
returns-in-Ok-clause-runs g c = rw c.in-Ok.is (rw (← c.as_slice.ensures.value) c.run-status.ensures.runs)

pub returns-in-Ok-clause-unread : goal.returns-in-Ok-clause-unread
returns-in-Ok-clause-unread g c = rw c.in-Ok.is (rw (← c.as_slice.ensures.value) c.run-status.ensures.unread)

pub returns-in-Ok-clause-silent : goal.returns-in-Ok-clause-silent
returns-in-Ok-clause-silent g c = elim c.explain_if_refused.ensures.silent [
  | inl two ↦ inl two
  | inr same ↦ inr (rw c.in-Ok.is (rw same (rw (← c.as_slice.ensures.value) c.run-status.ensures.silent)))
]
