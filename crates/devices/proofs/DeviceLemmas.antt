-- Lemmas on what reads and writes do to known bytes.
use Rattle.std.proofs.Common.{◌≡◌, ℕ, ◌-◌, ◌<◌, List, ◌++◌, Option, None, Some, length, take, drop, refl, sym, ap, arith, ◌∙◌, append_assoc, length-append, take-append-drop}
use Rattle.std.specs.Io.KnownBytes.{Consumes}
use Rattle.devices.specs.Input.{IsTooLong}
use Rattle.std.proofs.lemmas.List.{take_rest}

-- a reader that gave too many bytes had too many
pub gave_too_many : (most : ℕ) (before after : Option (List ℕ)) (bytes : List ℕ) → Consumes before after bytes → most < length bytes → IsTooLong most before
gave_too_many most None after bytes gone big = (bytes, tt, big)
gave_too_many most (Some xs) None bytes gone big = absurd gone
gave_too_many most (Some xs) (Some ys) bytes gone big = (xs, refl, omega (arith, big, ap length gone, length-append bytes ys))

-- where a front of the rest is written, the rest is what stands behind it
pub front_moved : (all written rest : List ℕ) (count : ℕ) → all ≡ written ++ rest
    → all ≡ (written ++ take count rest) ++ take (length rest - count) (drop count rest)
front_moved all written rest count e =
    e ∙ ap (λ l. written ++ l) (sym (take-append-drop count rest)) ∙ sym (append_assoc written (take count rest) (drop count rest))
    ∙ ap (λ l. (written ++ take count rest) ++ l) (sym (take_rest rest count))
