-- What a call leaves in the room that its caller lends.
use Rattle.std.specs.Prelude.{◌≡◌, ◌⊎◌, ◌<◌, ◌≤◌, ◌++◌, ℕ, List, length, drop}

-- the number that says that a room is too small: the greatest of 64 bits
abbrev pub too_small : ℕ
too_small = 18446744073709551615

-- the text stands at the room's beginning, the rest of the room is as it was, and the number is the text's length; or the text is longer than the room, which is as it was
abbrev pub IsPut : List ℕ → List ℕ → List ℕ → ℕ → Type 0
IsPut text old new number =
    ((length text ≤ length old) × (new ≡ text ++ drop (length text) old) × (number ≡ length text))
    ⊎ ((length old < length text) × (new ≡ old) × (number ≡ too_small))
