use Rattle.std.proofs.Common.{◌∙◌, ap, arith}
use Rattle.std.proofs.KnownBytes.{Appends-nil}
use Rattle.batches.specs.Batch.{with_number}
use Rattle.batches.proofs.BatchLemmas.{step_ended, step_written, step_unwritten}
use Rattle.batches.proofs.batch.answer_next.Goals as goal

pub returns-in_default-clause-step : goal.returns-in_default-clause-step
returns-in_default-clause-step g c =
    step_ended c.args.run.now.batch _ _ c.in_ok-next.ensures.takes (rw c.in_default.is at c.in_ok-plain.ensures.text)
    (Appends-nil _) (omega (arith, c.in_ok-next.ensures.counts), omega arith)

pub returns-in_err-write_all-clause-step : goal.returns-in_err-write_all-clause-step
returns-in_err-write_all-clause-step g c =
    step_unwritten c.args.run.now.batch _ c.from_residual-in_err-write_all.result _ c.in-Some.plain _ c.from_residual-in_err-write_all.ensures
    c.in_ok-next.ensures.takes (rw c.in-Some.is at c.in_ok-plain.ensures.text) (c.in_ok-text.ensures ∙ ap (λ n. with_number c.args.run.now.batch.options.json n c.in-Some.plain.items) c.saturating_add-run.ensures)
    (rw (← c.as_slice-2.ensures.value) c.in_err-write_all.ensures.beginning) (omega (arith, c.in_ok-next.ensures.counts), omega (arith, c.in_err-write_all.ensures.err))

pub returns-clause-step : goal.returns-clause-step
returns-clause-step g c =
    step_written c.args.run.now.batch _ _ _ c.in-Some.plain _ c.in_ok-next.ensures.takes (rw c.in-Some.is at c.in_ok-plain.ensures.text) (c.in_ok-text.ensures ∙ ap (λ n. with_number c.args.run.now.batch.options.json n c.in-Some.plain.items) c.saturating_add-run.ensures)
    (rw (← c.as_slice-2.ensures.value) c.in_ok-write_all.ensures.all) (omega (arith, c.in_ok-next.ensures.counts), omega (arith, c.in_ok-write_all.ensures.ok))
