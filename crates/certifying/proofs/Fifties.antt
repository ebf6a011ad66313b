-- Fifties behind a text.
use Rattle.std.proofs.Common.{◌≡◌, ℕ, ◌+◌, List, [], ◌∷◌, ◌++◌, sym, ap, ◌∙◌, append_assoc, replicate}
use Rattle.std.proofs.lemmas.List.{append-nil, replicate-append-replicate}

pub no_fifty : (old : List ℕ) → old ≡ old ++ replicate 0 90
no_fifty old = sym (append-nil old)

pub fifty_more : (old text new : List ℕ) (n : ℕ) → text ≡ old ++ replicate n 90 → new ≡ text ++ 90 ∷ [] → new ≡ old ++ replicate (n + 1) 90
fifty_more old text new n is next =
    next ∙ ap (λ (l : List ℕ). l ++ 90 ∷ []) is ∙ append_assoc old (replicate n 90) (90 ∷ []) ∙ ap (λ (l : List ℕ). old ++ l) (replicate-append-replicate n 1 90)

pub letter_after : (old text new : List ℕ) (n m letter : ℕ) → text ≡ old ++ replicate n 90 → n ≡ m → new ≡ text ++ letter ∷ [] → new ≡ old ++ (replicate m 90 ++ letter ∷ [])
letter_after old text new n m letter is same next =
    next ∙ ap (λ (l : List ℕ). l ++ letter ∷ []) (is ∙ ap (λ (k : ℕ). old ++ replicate k 90) same) ∙ append_assoc old (replicate m 90) (letter ∷ [])
