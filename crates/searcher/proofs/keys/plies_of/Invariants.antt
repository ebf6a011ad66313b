use Rattle.std.proofs.Common.{◌<◌, ◌≤◌, ◌*◌, ℕ}
use Rattle.problems.specs.Roots.{WinsIn}
use Rattle.searcher.proofs.keys.plies_of.Given as goal

-- the job wins in none of the rounds so far
abbrev pub invariant-loop-number : goal.invariant-loop-number
invariant-loop-number g l =
    record {
      goes : g.D.Decider.goes l.fn.decider l.decider;
      none : (k : ℕ) → 0 < k → k ≤ 2 * l.number → WinsIn l.root k l.job → ⊥;
    }
