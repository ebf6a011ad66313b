-- the rest gets shorter
use Rattle.std.proofs.Common.{length}
use Rattle.batches.proofs.ahead.lines_at_hand.Given as goal

abbrev pub decreases-loop-next : goal.decreases-loop-next
decreases-loop-next l = length l.rest
