-- The jobs that win in a round.
use Rattle.std.specs.Prelude.{ℕ}
use Rattle.problems.specs.declared.root.Root.{Root}
use Rattle.rounds.specs.declared.shared.RootJobs.{RootJobs}

-- the jobs that win within n plies, as a set
abbrev pub root_jobs : Root → ℕ → RootJobs
root_jobs r n = record { position = r.board; goal = r.goal; plies = n }
