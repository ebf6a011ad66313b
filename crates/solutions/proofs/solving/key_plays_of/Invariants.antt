use Rattle.std.proofs.Common.{take}
use Rattle.solutions.proofs.Plays.{PlaysOver}
use Rattle.solutions.proofs.solving.key_plays_of.Given as goal

-- the keys so far
abbrev pub invariant-loop-first : goal.invariant-loop-first
invariant-loop-first g l =
    record {
      goes : g.D.Decider.goes l.fn.decider l.decider;
      plays : PlaysOver l.root.goal l.root.board l.plies (take l.first-index l.first-items) l.keys.items;
    }
