-- The replies so far are written, and nothing has failed.
use Rattle.std.proofs.Common.{◌≡◌}
use Rattle.batches.specs.BatchRun.{IsBatchRun}
use Rattle.input_lines.specs.Lines.{left_of}
use Rattle.batches.proofs.BatchLemmas.{KeptSoFar}
use Rattle.batches.proofs.batch.answer_lines.Given as goal

abbrev pub invariant-loop : goal.invariant-loop
invariant-loop g l = record {
  crew : l.context.crew ≡ l.fn.context.crew;
  run : IsBatchRun l.run;
  same : l.run.batch ≡ l.fn.run.batch;
  reads : g.S.Source.failures l.reader ≡ g.S.Source.failures l.fn.reader;
  writes : g.K.Sink.failures l.writer ≡ g.K.Sink.failures l.fn.writer;
  kept : KeptSoFar l.fn.run.batch l.fn.run.number l.run.number (left_of l.fn.run.unread (g.S.Source.remaining l.fn.reader)) (left_of l.run.unread (g.S.Source.remaining l.reader))
      (g.K.Sink.contents l.fn.writer) (g.K.Sink.contents l.writer);
}
