-- Fields, byte by byte.
use Rattle.std.proofs.Common.{◌≡◌, ◌≢◌, ◌∙◌, ◌==◌, ◌+◌, length, take, sym, ℕ, suc, Bool, true, false, List, [], ◌∷◌, ◌++◌, if◌then◌else◌, ap, refl, All, ne_eqb, arith}
use Rattle.std.proofs.lemmas.List.Elements.{All-head, All-tail}
use lib.Seq.{take-append-add, take-append_seam}
use Rattle.batch_texts.specs.Fields.{are_counts, fields_of, onto_field, position_of}

-- no byte is a space
abbrev pub HasNoSpace : List ℕ → Type 0
HasNoSpace bytes = All (λ x. x ≢ 32) bytes

-- a text without a space is one field
pub one_field : (text : List ℕ) → HasNoSpace text → fields_of text ≡ text ∷ []
one_field [] none = refl
one_field (x ∷ xs) none =
    rw (ne_eqb x 32 (All-head (λ y. y ≢ 32) x xs none)) (rw (one_field xs (All-tail (λ y. y ≢ 32) x xs none)) refl)

-- a space ends the first field
pub first_field : (field rest : List ℕ) → HasNoSpace field → fields_of (field ++ 32 ∷ rest) ≡ field ∷ fields_of rest
first_field [] rest none = refl
first_field (x ∷ xs) rest none =
    rw (ne_eqb x 32 (All-head (λ y. y ≢ 32) x xs none)) (rw (first_field xs rest (All-tail (λ y. y ≢ 32) x xs none)) refl)

-- the first two fields are the beginning of the text
pub two_fields : (text board behind side counts : List ℕ) → fields_of text ≡ board ∷ fields_of behind → fields_of behind ≡ side ∷ fields_of counts
    → text ≡ board ++ 32 ∷ behind → behind ≡ side ++ 32 ∷ counts → are_counts (fields_of counts) ≡ true
    → take (length board + 1 + length side) text ≡ position_of text
two_fields text board behind side counts first second text_is behind_is are =
    let whole : text ≡ board ++ (32 ∷ (side ++ 32 ∷ counts)) = text_is ∙ ap (λ l. board ++ 32 ∷ l) behind_is in
    let size : length board + 1 + length side ≡ length board + suc (length side) = omega arith in
    let cut : take (length board + 1 + length side) text ≡ board ++ 32 ∷ side =
    ap (λ n. take n text) size ∙ ap (λ l. take (length board + suc (length side)) l) whole
    ∙ take-append-add board (32 ∷ (side ++ 32 ∷ counts)) (suc (length side))
    ∙ ap (λ l. board ++ 32 ∷ l) (take-append_seam side (32 ∷ counts)) in
    cut ∙ sym (rw first (rw second (rw are refl)))

-- each text has a field
some_field : (text : List ℕ) → (field : List ℕ) × (fields : List (List ℕ)) × (fields_of text ≡ field ∷ fields)
some_field [] = ([], [], refl)
some_field (x ∷ xs) = by_space (x == 32) x (fields_of xs)
  where
    first_of : (x : ℕ) (fields : List (List ℕ)) → (field : List ℕ) × (more : List (List ℕ)) × (onto_field x fields ≡ field ∷ more)
    first_of x [] = (x ∷ [], [], refl)
    first_of x (field ∷ fields) = (x ∷ field, fields, refl)

    by_space : (is_space : Bool) (x : ℕ) (fields : List (List ℕ)) → (field : List ℕ) × (more : List (List ℕ)) × ((if is_space then [] ∷ fields else onto_field x fields) ≡ field ∷ more)
    by_space true x fields = ([], fields, refl)
    by_space false x fields = first_of x fields

-- five fields are too many
pub too_many : (text a b c d r s t u : List ℕ) → fields_of text ≡ a ∷ fields_of r → fields_of r ≡ b ∷ fields_of s → fields_of s ≡ c ∷ fields_of t
    → fields_of t ≡ d ∷ fields_of u → false ≡ are_counts (fields_of text)
too_many text a b c d r s t u one two three four =
    let (field, fields, some) = some_field u in
    rw one (rw two (rw three (rw four (rw some refl))))
