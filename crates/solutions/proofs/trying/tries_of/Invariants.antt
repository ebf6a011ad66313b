use Rattle.std.proofs.Common.{take}
use Rattle.solutions.proofs.Tries.{TriesOver}
use Rattle.solutions.proofs.trying.tries_of.Given as goal

-- the tries among the moves so far
abbrev pub invariant-loop-first : goal.invariant-loop-first
invariant-loop-first g l =
    record {
      goes : g.D.Decider.goes l.fn.decider l.decider;
      tries : TriesOver l.root.goal l.root.board l.plies (take l.first-index l.first-items) l.tries.items;
    }
