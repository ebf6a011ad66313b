use Rattle.std.proofs.Common.{◌∙◌, ap, inl, inr}
use Rattle.std.proofs.lemmas.Result.{IfOk-weaker}
use Rattle.refusals.specs.Refusal.{refusal_status}
use Rattle.batches.proofs.BatchLemmas.{refusal_reply}
use Rattle.batches.proofs.batch.asked_text.Goals as goal

pub returns-else-status-eq3 : goal.returns-else-status-eq3
returns-else-status-eq3 g c = IfOk-weaker c.refusal_line.result _ _ (λ text is. elim c.in-Err.ensures [
  | inl none ↦ absurd (c.if-status-eq3.false (c.status.ensures ∙ ap refusal_status none))
  | inr refused ↦ refusal_reply c.args.batch.now c.args.asked.now c.in-Err.refusal text.items refused is
]) c.refusal_line.ensures
