-- What a search remembers of moves. No answer rests on it.
use Rattle.std.specs.Prelude.{◌≡◌, ℕ, ◌<◌, List, None, slice_index_or}
use Rattle.decision.specs.declared.memory.Memory.{Memory}

-- no move has won, no reply has refuted, and nothing is counted
pub record IsBlank (memory : Memory) : Type 0 where
  pub won : (pair : ℕ) → pair < 1296 → slice_index_or memory.won pair 0 ≡ 0
  pub latest : memory.latest ≡ None
  pub earlier : memory.earlier ≡ None
  pub expanded : memory.expanded ≡ 0

-- the pairs of squares have won so often, no reply has refuted, and nothing is counted
abbrev pub Remembers : List ℕ → Memory → Type 0
Remembers won memory = memory ≡ record { won = won; latest = None; earlier = None; expanded = 0 }
