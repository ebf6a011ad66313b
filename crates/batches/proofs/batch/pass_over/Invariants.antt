-- So many lines are passed over, and no read has failed.
use Rattle.std.proofs.Common.{◌≡◌, true}
use Rattle.input_lines.specs.Lines.{IsUnread, left_of}
use Rattle.batches.specs.BatchRun.{PassesOver}
use Rattle.batches.proofs.batch.pass_over.Given as goal

abbrev pub invariant-loop : goal.invariant-loop
invariant-loop g l = record {
  bounds : IsUnread l.unread;
  reads : g.S.Source.failures l.reader ≡ g.S.Source.failures l.fn.reader;
  passed : PassesOver l.counter (left_of l.fn.unread (g.S.Source.remaining l.fn.reader)) (left_of l.unread (g.S.Source.remaining l.reader)) true;
}
