-- A board, drawn square by square and rank by rank.
use Rattle.std.proofs.Common.{◌≡◌, ◌∙◌, ℕ, zero, suc, ◌+◌, List, [], ◌++◌, ap, sym, append_assoc, append-nil, arith}
use Rattle.std.specs.List.{flat_map, range_with_len}

-- one more number from a on
more_from : (f : ℕ → List ℕ) (a n : ℕ) → flat_map f (range_with_len a (suc n)) ≡ flat_map f (range_with_len a n) ++ f (a + n)
more_from f a zero = let e : a ≡ a + 0 = omega arith in append-nil (f a) ∙ ap f e
more_from f a (suc n) =
    let e : a + 1 + n ≡ a + suc n = omega arith in
    ap (λ l. f a ++ l) (more_from f (a + 1) n ∙ ap (λ m. flat_map f (range_with_len (a + 1) n) ++ f m) e)
    ∙ sym (append_assoc (f a) (flat_map f (range_with_len (a + 1) n)) (f (a + suc n)))

-- what is drawn of the numbers below n + 1 is what is drawn of those below n, and then of n
pub drawn_more : (f : ℕ → List ℕ) (n : ℕ) → flat_map f (range_with_len 0 (n + 1)) ≡ flat_map f (range_with_len 0 n) ++ f n
drawn_more f n =
    let on : n + 1 ≡ suc n = omega arith in
    let e : 0 + n ≡ n = omega arith in
    ap (λ m. flat_map f (range_with_len 0 m)) on ∙ more_from f 0 n ∙ ap (λ m. flat_map f (range_with_len 0 n) ++ f m) e

-- what was drawn up to n, and then of n, is what is drawn up to n + 1
pub drawn_on : (f : ℕ → List ℕ) (n : ℕ) (old before new : List ℕ) → before ≡ old ++ flat_map f (range_with_len 0 n) → new ≡ before ++ f n
    → new ≡ old ++ flat_map f (range_with_len 0 (n + 1))
drawn_on f n old before new so_far more =
    more ∙ ap (λ l. l ++ f n) so_far ∙ append_assoc old (flat_map f (range_with_len 0 n)) (f n) ∙ ap (λ l. old ++ l) (sym (drawn_more f n))

-- what was drawn in two steps
pub two_drawn : (old one new a b : List ℕ) → one ≡ old ++ a → new ≡ one ++ b → new ≡ old ++ (a ++ b)
two_drawn old one new a b first second = second ∙ ap (λ l. l ++ b) first ∙ append_assoc old a b

-- what was drawn in nine steps, from nothing
pub nine_drawn : (s t u v w x y z last end a b c d e f g h i : List ℕ) → s ≡ [] → t ≡ s ++ a → u ≡ t ++ b → v ≡ u ++ c → w ≡ v ++ d
    → x ≡ w ++ e → y ≡ x ++ f → z ≡ y ++ g → last ≡ z ++ h → end ≡ last ++ i → end ≡ a ++ (b ++ (c ++ (d ++ (e ++ (f ++ (g ++ (h ++ i)))))))
nine_drawn s t u v w x y z last end a b c d e f g h i none one two three four five six seven eight nine =
    two_drawn s t end a _ one (two_drawn t u end b _ two (two_drawn u v end c _ three (two_drawn v w end d _ four (two_drawn w x end e _ five
    (two_drawn x y end f _ six (two_drawn y z end g _ seven (two_drawn z last end h i eight nine)))))))
    ∙ ap (λ l. l ++ (a ++ (b ++ (c ++ (d ++ (e ++ (f ++ (g ++ (h ++ i))))))))) none
