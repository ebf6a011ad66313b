-- What lent memory owns.
use Rattle.std.specs.Prelude.{◌≡◌, ℕ, ◌/◌, ◌%◌, ◌^◌, ◌<◌}
use mir.Syntax.{Ty, w128, ty_int, ty_array}
use base.Fml.{Fml, fex, fwand}
use denote.RawPtr.{Ptr, room_for}

-- a size that lent memory may have
abbrev pub IsMemorySize : ℕ → Type 0
IsMemorySize n = (n % 16 ≡ 0) × (n < 2 ^ 63)

-- n bytes, as units of 16 that are aligned to 16
abbrev pub blocks_type : ℕ → Ty
blocks_type n = ty_array (ty_int w128) (n / 16)

-- room for them at p
abbrev pub bytes_at : Ptr → ℕ → Fml
bytes_at p n = room_for (blocks_type n) p

-- the right to give the block for a τ at p, which is all n bytes, back
abbrev pub block_token : ℕ → Ty → Ptr → Fml
block_token n τ p = fex (IsMemorySize n) (λ _. fwand (room_for τ p) (bytes_at p n))
