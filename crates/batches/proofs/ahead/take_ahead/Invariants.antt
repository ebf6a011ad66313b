-- what is left is right, as all was
use Rattle.std.proofs.Common.{◌≡◌, length}
use Rattle.batch_texts.specs.declared.asked.Batch.{Batch}
use Rattle.batches.specs.BatchRun.{AreAhead}
use Rattle.batches.proofs.ahead.take_ahead.Given as goal

abbrev pub invariant-loop-lane : goal.invariant-loop-lane
invariant-loop-lane l = record {
  count : length l.ahead.items ≡ length l.fn.ahead.items;
  right : (batch : Batch) → AreAhead batch l.fn.ahead.items → AreAhead batch l.ahead.items;
}
