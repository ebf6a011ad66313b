use Rattle.std.proofs.Common.{take}
use Rattle.solutions.proofs.Common.{Refutes}
use Rattle.solutions.proofs.Lists.{PicksMoves}
use Rattle.solutions.proofs.refuting.refutations_of.Given as goal

-- the replies so far that refute
abbrev pub invariant-loop-reply : goal.invariant-loop-reply
invariant-loop-reply g l =
    record {
      goes : g.D.Decider.goes l.fn.decider l.decider;
      picks : PicksMoves l.board.game (Refutes l.goal l.board l.plies) (take l.reply-index l.reply-items) l.refutations.items;
    }
