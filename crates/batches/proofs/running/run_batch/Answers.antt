use Rattle.std.proofs.Common.{arith, inl, inr, refl}
use Rattle.batches.proofs.BatchLemmas.{answers_with, batch_ran, batch_refused, fresh_left, gave_up}
use Rattle.endings.proofs.EndingLemmas.{finishes_after}
use Rattle.input_lines.specs.Lines.{left_of}
use Rattle.batches.proofs.running.run_batch.Goals as goal

pub returns-in-None-clause-runs : goal.returns-in-None-clause-runs
returns-in-None-clause-runs g c =
    let opened = c.in-Ok.ensures.1 in
    let (texts, answers, (written, (unread, unfailed))) = c.in-None.ensures.lines in
    batch_ran c.in-Ok.opened.batch c.args.batch _ _ texts opened.0.0 opened.1
    (fresh_left c.in-Ok.opened.unread (g.S.Source.remaining c.args.reader.now) opened.2 opened.3) answers
    (inl (omega (arith, unread), inl (written, omega (arith, unfailed), refl)))

pub returns-in-Some-NoMemory-clause-runs : goal.returns-in-Some-NoMemory-clause-runs
returns-in-Some-NoMemory-clause-runs g c =
    let opened = c.in-Ok.ensures.1 in
    let (texts, answers, (written, (unread, unfailed))) = rw c.in-Some-NoMemory.field-0-is at c.in-Some-NoMemory.ensures.lines in
    let left = left_of c.in-Ok.opened.unread (g.S.Source.remaining c.args.reader.now) in
    batch_ran c.in-Ok.opened.batch c.args.batch _ left texts opened.0.0 opened.1
    (fresh_left c.in-Ok.opened.unread (g.S.Source.remaining c.args.reader.now) opened.2 opened.3)
    (answers_with c.in-Ok.opened.batch 3 c.give_up.result left texts (gave_up _ _ c.give_up.ensures) answers)
    (inr (inr (omega (arith, unread), finishes_after _ _ _ _ _ _ _ 3 _ _ written unfailed c.give_up.ensures)))

pub returns-in-Some-ReadFailed-clause-runs : goal.returns-in-Some-ReadFailed-clause-runs
returns-in-Some-ReadFailed-clause-runs g c =
    let opened = c.in-Ok.ensures.1 in
    let (texts, answers, (written, (unread, unfailed))) = rw c.in-Some-ReadFailed.field-0-is at c.in-Some-ReadFailed.ensures.lines in
    let left = left_of c.in-Ok.opened.unread (g.S.Source.remaining c.args.reader.now) in
    batch_ran c.in-Ok.opened.batch c.args.batch _ left texts opened.0.0 opened.1
    (fresh_left c.in-Ok.opened.unread (g.S.Source.remaining c.args.reader.now) opened.2 opened.3)
    (answers_with c.in-Ok.opened.batch 4 c.fail_to_read.result left texts (λ e. absurd (omega (arith, e, c.fail_to_read.ensures))) answers)
    (inr (inl (omega (arith, unread), omega (arith, unfailed), c.fail_to_read.ensures, written)))

pub returns-in-Ok-clause-runs : goal.returns-in-Ok-clause-runs
returns-in-Ok-clause-runs g c =
    let opened = c.in-Ok.ensures.1 in
    let (texts, answers, (cut, (unread, failed))) = rw c.in-Some-WriteFailed.field-0-is at c.in-Some-WriteFailed.ensures.lines in
    let left = left_of c.in-Ok.opened.unread (g.S.Source.remaining c.args.reader.now) in
    batch_ran c.in-Ok.opened.batch c.args.batch _ left texts opened.0.0 opened.1
    (fresh_left c.in-Ok.opened.unread (g.S.Source.remaining c.args.reader.now) opened.2 opened.3)
    (answers_with c.in-Ok.opened.batch 4 c.fail_to_write.result left texts (λ e. absurd (omega (arith, e, c.fail_to_write.ensures))) answers)
    (inl (omega (arith, unread), inr (cut, omega (arith, failed), c.fail_to_write.ensures)))

pub returns-clause-runs : goal.returns-clause-runs
returns-clause-runs g c =
    batch_refused c.args.batch _ c.in-Err.refusal (omega arith) c.in-Err.ensures c.refuse_batch.ensures.refuses c.refuse_batch.ensures.memory
