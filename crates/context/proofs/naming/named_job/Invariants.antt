-- None of the moves so far has the name.
use Rattle.std.proofs.Common.{◌≡◌, ℕ, ◌<◌, get_or}
use Rattle.context.proofs.naming.named_job.Given as goal

abbrev pub invariant-loop-job : goal.invariant-loop-job
invariant-loop-job l = (k : ℕ) → k < l.job → get_or l.root.moves.items k l.named ≡ l.named → ⊥
