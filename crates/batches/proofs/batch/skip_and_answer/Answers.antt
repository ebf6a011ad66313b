use Rattle.std.proofs.Common.{◌∙◌, arith}
use Rattle.std.proofs.KnownBytes.{Appends-nil}
use Rattle.batches.specs.BatchRun.{step_of}
use Rattle.input_lines.specs.Lines.{left_of}
use Rattle.batches.proofs.BatchLemmas.{batch_behind, batch_of_none, batch_unread}
use Rattle.batches.proofs.batch.skip_and_answer.Goals as goal

pub returns-in-Ok-true : goal.returns-in-Ok-true
returns-in-Ok-true g c = record {
  lines = batch_behind c.args.run.now.batch c.args.run.now.number (left_of c.args.run.now.unread (g.S.Source.remaining c.args.reader.now))
      (step_of (record c.args.run.now { unread = c.pass_over.new.unread; number = c.from-run.result }) c.answer_lines.new.run g.S.Source.remaining g.S.Source.failures
      c.pass_over.new.reader c.answer_lines.new.reader g.K.Sink.contents g.K.Sink.failures c.args.writer.now c.answer_lines.new.writer)
      (g.S.Source.failures c.args.reader.now) c.answer_lines.result (c.from-run.ensures ∙ c.left_out-count.ensures)
      (rw (← c.left_out-count.ensures) (rw c.in-Ok-true.field-0-test at c.in-Ok-true.ensures.passes))
      (omega (arith, c.in-Ok-true.ensures.counts)) c.answer_lines.ensures.lines;
}

pub returns-in-Ok-false : goal.returns-in-Ok-false
returns-in-Ok-false g c = record {
  lines = batch_of_none c.args.run.now.batch
      (step_of c.args.run.now (record c.args.run.now { unread = c.pass_over.new.unread }) g.S.Source.remaining g.S.Source.failures
      c.args.reader.now c.pass_over.new.reader g.K.Sink.contents g.K.Sink.failures c.args.writer.now c.args.writer.now)
      (rw (← c.left_out-count.ensures) (rw c.in-Ok-false.field-0-test at c.in-Ok-false.ensures.passes))
      (Appends-nil _) (omega (arith, c.in-Ok-false.ensures.counts), omega arith);
}

pub returns-in-Err : goal.returns-in-Err
returns-in-Err g c = record {
  lines = rw c.from.ensures (batch_unread c.args.run.now.batch
      (step_of c.args.run.now (record c.args.run.now { unread = c.pass_over.new.unread }) g.S.Source.remaining g.S.Source.failures
      c.args.reader.now c.pass_over.new.reader g.K.Sink.contents g.K.Sink.failures c.args.writer.now c.args.writer.now)
      c.in-Err.fault (Appends-nil _) (omega (arith, c.in-Err.ensures.counts)) (omega arith));
}
