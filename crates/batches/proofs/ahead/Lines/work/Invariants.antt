-- the lane is one still
use Rattle.batches.specs.BatchRun.{IsLane}
use Rattle.batches.proofs.ahead.Lines.work.Given as goal

abbrev pub invariant-loop : goal.invariant-loop
invariant-loop l = IsLane l.fn.self.batch.now l.fn.self.slots.now l.lane
