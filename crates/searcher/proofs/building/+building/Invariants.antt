use Rattle.std.proofs.Common.{◌≡◌, ◌+◌, ◌*◌, take}
use Rattle.searcher.proofs.PlanLists.{replies_in, AreBest, AreShallow}
use Rattle.searcher.proofs.building.+building.Given as goal

abbrev pub decreases-best_tree : goal.decreases-best_tree
decreases-best_tree g l = 3 * l.limit + 1

abbrev pub decreases-tree_behind : goal.decreases-tree_behind
decreases-tree_behind g l = 3 * l.limit

abbrev pub decreases-replies_to : goal.decreases-replies_to
decreases-replies_to g l = 3 * l.n + 2

-- the replies so far are met
abbrev pub invariant-replies_to-loop-m : goal.invariant-replies_to-loop-m
invariant-replies_to-loop-m g l =
    record {
      goes : g.D.Decider.goes l.fn.decider l.decider;
      moves : replies_in l.replies.items ≡ take l.m-index l.m-items;
      best : AreBest l.fn.builder.goal l.board l.replies.items;
      depth : AreShallow l.n l.replies.items;
    }
