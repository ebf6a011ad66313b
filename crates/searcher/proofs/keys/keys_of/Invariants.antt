use Rattle.std.proofs.Common.{take}
use Rattle.moves.proofs.Picking.{InOrder, Picks}
use Rattle.searcher.proofs.Taking.{Before, IsKey, first_of}
use Rattle.searcher.proofs.keys.keys_of.Given as goal

-- the keys among the jobs so far
abbrev pub invariant-loop-job : goal.invariant-loop-job
invariant-loop-job g l =
    record {
      goes : g.D.Decider.goes l.fn.decider l.decider;
      ordered : InOrder (Before l.root) first_of (IsKey l.root) l.keys.items;
      exact : Picks (Before l.root) first_of (IsKey l.root) (take l.job l.root.moves.items) l.keys.items;
    }
