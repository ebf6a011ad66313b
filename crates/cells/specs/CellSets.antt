-- Sets of cells, one bit a cell.
use Rattle.std.specs.Prelude.{◌≡◌, ℕ}
use Rattle.std.specs.Int.{bit_at}

-- the cell is in the set
abbrev pub Has : ℕ → ℕ → Type 0
Has set i = bit_at set i ≡ 1
