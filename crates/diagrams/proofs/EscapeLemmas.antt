-- A text as it stands in XML, character by character.
use Rattle.std.proofs.Common.{◌≡◌, ◌∙◌, ◌≢◌, ◌<◌, ℕ, suc, List, [], ◌∷◌, ◌++◌, length, get_or, encode_utf8, refl, sym, ap₂, append-nil, arith}
use Rattle.std.proofs.lemmas.Bool.Decides.{nat_tests}
use Rattle.std.proofs.lemmas.Str.{inside_one}
use Rattle.diagrams.specs.Pictures.{escaped_byte, escaped}

kept_byte : (b : ℕ) → b ≢ 38 → b ≢ 60 → b ≢ 62 → escaped_byte b ≡ b ∷ []
kept_byte b and less greater = grind (arith, nat_tests)

kept : (bytes : List ℕ) → ((k : ℕ) → k < length bytes → escaped_byte (get_or bytes k 0) ≡ get_or bytes k 0 ∷ []) → escaped bytes ≡ bytes
kept [] each = refl
kept (b ∷ bytes) each = ap₂ (λ (x y : List ℕ). x ++ y) (each 0 (omega arith)) (kept bytes (λ k inside. each (suc k) (omega arith)))

-- a character that is none of these three has no byte of theirs
other_byte : (c n k : ℕ) → n < 128 → c ≢ n → k < length (encode_utf8 c) → get_or (encode_utf8 c) k 0 ≢ n
other_byte c n k small other inside e = other (inside_one c [] (encode_utf8 c) k (sym (append-nil _)) inside (omega (arith, e)) ∙ e)

-- it stands in XML as it is
pub escaped_other : (c : ℕ) → c ≢ 38 → c ≢ 60 → c ≢ 62 → escaped (encode_utf8 c) ≡ encode_utf8 c
escaped_other c and less greater = kept (encode_utf8 c) (λ k inside. kept_byte (get_or (encode_utf8 c) k 0)
    (other_byte c 38 k (omega arith) and inside) (other_byte c 60 k (omega arith) less inside) (other_byte c 62 k (omega arith) greater inside))

pub escaped_none : (bytes : List ℕ) → length bytes ≡ 0 → escaped bytes ≡ []
escaped_none [] none = refl
escaped_none (b ∷ bytes) none = absurd (omega (arith, none))
