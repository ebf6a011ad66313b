use Rattle.std.proofs.Common.{◌*◌}
use Rattle.problems.specs.Answer.{ForcesNothing}
use Rattle.searcher.proofs.best.fewest_plies.Given as goal

-- nothing is forced within the rounds so far
abbrev pub invariant-loop-round : goal.invariant-loop-round
invariant-loop-round g l =
    record {
      goes : g.D.Decider.goes l.fn.decider l.decider;
      nothing : ForcesNothing l.root.goal l.root.board (2 * l.round);
    }
