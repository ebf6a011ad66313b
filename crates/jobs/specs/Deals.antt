-- Which jobs a thread is dealt.
use Rattle.std.specs.Prelude.{ℕ, ◌+◌, ◌<◌, ◌≤◌, List, [], ◌∷◌}

-- the list is `from`, `from + step`, `from + 2 * step` and so on, each that is below the count
pub data Deals (step count : ℕ) : ℕ → List ℕ → Type 0 where
  no_more : {from : ℕ} → count ≤ from → Deals step count from []
  one_more : {from : ℕ} {rest : List ℕ} → from < count → Deals step count (from + step) rest
      → Deals step count from (from ∷ rest)
