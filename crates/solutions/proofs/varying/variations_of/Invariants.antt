use Rattle.std.proofs.Common.{take}
use Rattle.solutions.proofs.Variations.{VariesOver}
use Rattle.solutions.proofs.varying.variations_of.Given as goal

-- the variations of the replies so far
abbrev pub invariant-loop-reply : goal.invariant-loop-reply
invariant-loop-reply g l =
    record {
      goes : g.D.Decider.goes l.fn.decider l.decider;
      varies : VariesOver l.goal l.board l.limit (take l.reply-index l.reply-items) l.variations.items;
    }
