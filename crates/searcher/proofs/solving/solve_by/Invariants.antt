use Rattle.std.proofs.Common.{◌*◌}
use Rattle.problems.specs.Answer.{ForcesNothing}
use Rattle.searcher.proofs.solving.solve_by.Given as goal

-- the rounds so far were in vain
abbrev pub invariant-loop-number : goal.invariant-loop-number
invariant-loop-number g l =
    record {
      goes : g.D.Decider.goes l.fn.decider l.decider;
      nothing : ForcesNothing l.root.goal l.root.board (2 * l.number);
    }
