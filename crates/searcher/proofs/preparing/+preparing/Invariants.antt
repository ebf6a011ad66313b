use Rattle.std.proofs.Common.{◌+◌, ◌*◌}
use Rattle.searcher.proofs.preparing.+preparing.Given as goal

abbrev pub decreases-prepare_line : goal.decreases-prepare_line
decreases-prepare_line g l = 2 * l.limit

abbrev pub decreases-prepare_replies : goal.decreases-prepare_replies
decreases-prepare_replies g l = 2 * l.n + 1

-- the decider went on
abbrev pub invariant-prepare_replies-loop-k : goal.invariant-prepare_replies-loop-k
invariant-prepare_replies-loop-k g l = g.D.Decider.goes l.fn.decider l.decider
