use Rattle.std.proofs.Common.{arith, rules}
use Rattle.std.proofs.KnownBytes.{Appends-nil}
use Rattle.batches.specs.BatchRun.{step_of}
use Rattle.input_lines.specs.Lines.{left_of}
use Rattle.batches.proofs.BatchLemmas.{behind_mark, empty_input, mark_unread}
use Rattle.batches.proofs.batch.answer_input.Goals as goal

pub returns-in-Ok-true : goal.returns-in-Ok-true
returns-in-Ok-true g c = record {
  lines = behind_mark c.args.run.now.batch c.args.run.now.number (left_of c.args.run.now.unread (g.S.Source.remaining c.args.reader.now))
      (step_of (record c.args.run.now { unread = c.skip_mark.new.self }) c.skip_and_answer.new.run g.S.Source.remaining g.S.Source.failures
      c.skip_mark.new.reader c.skip_and_answer.new.reader g.K.Sink.contents g.K.Sink.failures c.args.writer.now c.skip_and_answer.new.writer)
      (g.S.Source.failures c.args.reader.now) c.skip_and_answer.result c.in-Ok-true.ensures.skips (omega (arith, c.in-Ok-true.ensures.ok)) c.skip_and_answer.ensures.lines;
}

pub returns-in-Ok-false : goal.returns-in-Ok-false
returns-in-Ok-false g c = record {
  lines = empty_input c.args.run.now.batch
      (step_of c.args.run.now (record c.args.run.now { unread = c.skip_mark.new.self }) g.S.Source.remaining g.S.Source.failures
      c.args.reader.now c.skip_mark.new.reader g.K.Sink.contents g.K.Sink.failures c.args.writer.now c.args.writer.now)
      (c.in-Ok-false.ensures.empty c.in-Ok-false.field-0-test) (Appends-nil _) (omega (arith, c.in-Ok-false.ensures.ok), omega arith);
}

pub returns-in-Err : goal.returns-in-Err
returns-in-Err g c = record {
  lines = mark_unread c.args.run.now.batch
      (step_of c.args.run.now (record c.args.run.now { unread = c.skip_mark.new.self }) g.S.Source.remaining g.S.Source.failures
      c.args.reader.now c.skip_mark.new.reader g.K.Sink.contents g.K.Sink.failures c.args.writer.now c.args.writer.now)
      (Appends-nil _) (omega (arith, c.in-Err.ensures.err)) (omega arith);
}
