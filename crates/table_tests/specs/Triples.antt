-- Entries of the tests: words x, x + 1 and x + 2, whose key is x modulo 4. The greater x stays.
use Rattle.std.specs.Prelude.{◌≡◌, ℕ, ◌+◌, ◌%◌, ◌^◌, ◌<◌, Bool, true, false, nat_lt, if◌then◌else◌, List, [], ◌∷◌, slice_index}
use Rattle.std.proofs.Common.{refl, ap, get_or, arith}

-- three words in a row, for x from 1 to the greatest number of 32 bits
abbrev pub IsTriple : List ℕ → Type 0
IsTriple words = (x : ℕ) × (0 < x) × (x < 2 ^ 32) × (words ≡ x ∷ (x + 1) ∷ (x + 2) ∷ [])

-- x modulo 4
abbrev pub triple_key : List ℕ → List ℕ
triple_key words = (slice_index words 0 % 4) ∷ 0 ∷ 0 ∷ []

pub zeros_no_triple : IsTriple (0 ∷ 0 ∷ 0 ∷ []) → ⊥
zeros_no_triple t = let e : 0 ≡ t.0 = ap (λ (l : List ℕ). get_or l 0 0) t.3 in let p = t.1 in omega arith

-- the greater x stays
abbrev pub triple_prefers : List ℕ → List ℕ → Bool
triple_prefers old new = if nat_lt (slice_index old 0) (slice_index new 0) then false else nat_lt 0 (slice_index old 0)

either_no : (b : Bool) → (if b then false else false) ≡ false
either_no true = refl
either_no false = refl

pub zeros_never : (new : List ℕ) → triple_prefers (0 ∷ 0 ∷ 0 ∷ []) new ≡ false
zeros_never new = either_no (nat_lt 0 (slice_index new 0))
