-- none of the jobs so far is named
use Rattle.std.proofs.Common.{ℕ, ◌<◌}
use Rattle.progress.specs.Place.{MayBeNamed}
use Rattle.progress.proofs.place.first_named.Given as goal

abbrev pub invariant-loop-job : goal.invariant-loop-job
invariant-loop-job l = (j : ℕ) → j < l.job → MayBeNamed l.known l.plies j → ⊥
