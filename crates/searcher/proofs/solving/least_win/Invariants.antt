use Rattle.std.proofs.Common.{◌<◌, ℕ}
use Rattle.problems.specs.Roots.{WinsIn}
use Rattle.searcher.proofs.solving.least_win.Given as goal

-- none of the jobs so far wins
abbrev pub invariant-loop-job : goal.invariant-loop-job
invariant-loop-job g l =
    record {
      goes : g.D.Decider.goes l.fn.decider l.decider;
      none : (k : ℕ) → k < l.job → WinsIn l.root l.plies k → ⊥;
    }
