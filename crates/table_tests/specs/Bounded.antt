-- Entries of the tests: 48 bits of each word are the key. Above them the second word has a lower bound, and the third an upper one.
use Rattle.std.specs.Prelude.{◌≡◌, ◌≢◌, ℕ, ◌/◌, ◌%◌, ◌^◌, Bool, false, nat_lt, nat_le, if◌then◌else◌, ◌==◌, List, [], ◌∷◌, slice_index}
use Rattle.std.proofs.Common.{refl}

-- the first word isn't 0
abbrev pub IsBounded : List ℕ → Type 0
IsBounded words = slice_index words 0 ≢ 0

-- the words without their bounds
abbrev pub bounded_key : List ℕ → List ℕ
bounded_key words = slice_index words 0 ∷ (slice_index words 1 % 2 ^ 48) ∷ (slice_index words 2 % 2 ^ 48) ∷ []

-- both words have the key
abbrev pub same_key : List ℕ → List ℕ → Bool
same_key v w = if slice_index v 0 == slice_index w 0 then (if slice_index v 1 % 2 ^ 48 == slice_index w 1 % 2 ^ 48 then slice_index v 2 % 2 ^ 48 == slice_index w 2 % 2 ^ 48 else false) else false

abbrev pub lower : List ℕ → ℕ
lower words = slice_index words 1 / 2 ^ 48

-- 255 is an unknown one
abbrev pub upper : List ℕ → ℕ
upper words = slice_index words 2 / 2 ^ 48

-- the greater of the bounds that are known
abbrev pub greater_end : List ℕ → ℕ
greater_end words = if nat_lt (upper words) 255 then (if nat_lt (lower words) (upper words) then upper words else lower words) else lower words

-- Old words stay where they have another key and more weight, or the same key and bounds that are no worse
abbrev pub bounded_prefers : List ℕ → List ℕ → Bool
bounded_prefers old new = if slice_index old 0 == 0 then false else (if same_key old new then (if nat_lt (lower old) (lower new) then false else nat_le (upper old) (upper new)) else nat_lt (greater_end new) (greater_end old))

pub zeros_unbounded : IsBounded (0 ∷ 0 ∷ 0 ∷ []) → ⊥
zeros_unbounded some = some refl

pub zeros_never_stay : (new : List ℕ) → bounded_prefers (0 ∷ 0 ∷ 0 ∷ []) new ≡ false
zeros_never_stay new = refl
