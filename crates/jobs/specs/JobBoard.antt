-- A job board as contracts see it.
use Rattle.std.specs.Prelude.{ℕ}
use Rattle.atomic_table.specs.Seated.{TableId}

-- which word it is, which jobs win, and how many jobs there are
pub record JobBoard (W : Type 0) : Type 0 where
  pub table : TableId
  pub wins : W
  pub jobs : ℕ
