use Rattle.std.proofs.Common.{◌<◌, ◌-◌, length}
use Rattle.decision.proofs.order.last_alike.Given as goal

abbrev pub invariant-loop-last : goal.invariant-loop-last
invariant-loop-last l = l.last < length l.moves

abbrev pub decreases-loop-last : goal.decreases-loop-last
decreases-loop-last l = length l.moves - l.last
