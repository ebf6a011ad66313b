-- What holds of an input.
use Rattle.std.proofs.Common.{ℕ, refl, List, [], Option, Some, None}
use Rattle.devices.specs.Input.{OfInput}

pub of_any : (known : Option (List ℕ)) (P : List ℕ → Type 0) → ((input : List ℕ) → P input) → OfInput known P
of_any None P all = ([], tt, all [])
of_any (Some input) P all = (input, refl, all input)

pub of_input_then : (known : Option (List ℕ)) (P Q : List ℕ → Type 0) → OfInput known P → ((input : List ℕ) → P input → Q input) → OfInput known Q
of_input_then known P Q (input, same, is) so = (input, same, so input is)
