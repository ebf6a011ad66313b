-- Which job a sign names, from what is known of each job.
use Rattle.std.specs.Prelude.{◌≡◌, ◌⊎◌, ◌<◌, ℕ, List, length, slice_index}

-- the job wins, for which 255 stands, or isn't known to lose within so many plies
abbrev pub MayBeNamed : List ℕ → ℕ → ℕ → Type 0
MayBeNamed known plies k = (k < length known) × ((slice_index known k < plies) ⊎ (slice_index known k ≡ 255))

-- the job is so, and none before it is
abbrev pub StandsFirst : List ℕ → ℕ → ℕ → Type 0
StandsFirst known plies k = MayBeNamed known plies k × ((j : ℕ) → j < k → MayBeNamed known plies j → ⊥)
