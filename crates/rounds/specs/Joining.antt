-- When threads join in the jobs of others.
use Rattle.std.specs.Prelude.{ℕ, ◌≤◌}
use Rattle.slots.specs.Promise.{slots_of}
use Rattle.rounds.specs.declared.shared.Solve.{Solve}

-- Threads that have no job left join in the jobs of others: in rounds of five plies or more, over 512 slots or more
abbrev pub IsJoined : {T : Type 0} → Solve T → ℕ → Type 0
IsJoined search plies = (5 ≤ plies) × (512 ≤ slots_of search.slots.now)
