use Rattle.std.proofs.Common.{take}
use Rattle.solutions.proofs.Tries.{RefutesOnce}
use Rattle.solutions.proofs.trying.refutation_of.Given as goal

-- the one of the replies so far that refutes
abbrev pub invariant-loop-reply : goal.invariant-loop-reply
invariant-loop-reply g l =
    record {
      goes : g.D.Decider.goes l.fn.decider l.decider;
      once : RefutesOnce l.goal l.board l.plies (take l.reply-index l.reply-items) l.found;
    }
