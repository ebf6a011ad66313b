-- What the bytes of a row say of the units of its rank: letters, widths and counts.
use Rattle.std.proofs.Common.{◌≡◌, ◌<◌, ◌≤◌, ℕ, ◌+◌, ◌-◌, zero, suc, refl, sym, ap, subst, ◌∙◌, arith, lit<, List, [], ◌∷◌, ◌++◌, replicate, Option, Some, None, Bool, true, false, cond, eqb}
use Rattle.std.specs.List.{find}
use Rattle.board.proofs.Common.{IfSome, count_by, eqb-true, ne_eqb, nat_tests, sum_by-cons, sum_by-append, Game, Side, White, Black, Kind, King, Queen, Rook, Bishop, Knight, Pawn, Man, IsPlayed, is_king_of, is_of_side, letter_of, IsRankText, end, unit, run, is_digit, row_width, is_case_of}

-- ---- letters

-- what holds of both sides
pub by_sides : (P : Side → Type 0) → P White → P Black → (side : Side) → P side
by_sides P w b White = w
by_sides P w b Black = b

-- what holds of each side and kind
pub by_men : (P : Side → Kind → Type 0) → P White King → P White Queen → P White Rook → P White Bishop → P White Knight → P White Pawn → P Black King → P Black Queen → P Black Rook → P Black Bishop → P Black Knight → P Black Pawn → (s : Side) (k : Kind) → P s k
by_men P a b c d e f g h i j k l White King = a
by_men P a b c d e f g h i j k l White Queen = b
by_men P a b c d e f g h i j k l White Rook = c
by_men P a b c d e f g h i j k l White Bishop = d
by_men P a b c d e f g h i j k l White Knight = e
by_men P a b c d e f g h i j k l White Pawn = f
by_men P a b c d e f g h i j k l Black King = g
by_men P a b c d e f g h i j k l Black Queen = h
by_men P a b c d e f g h i j k l Black Rook = i
by_men P a b c d e f g h i j k l Black Bishop = j
by_men P a b c d e f g h i j k l Black Knight = k
by_men P a b c d e f g h i j k l Black Pawn = l

abbrev man : Side → Kind → Man
man s k = record { side = s; kind = k }

-- every unit
abbrev men : List Man
men = man White King ∷ man White Queen ∷ man White Rook ∷ man White Bishop ∷ man White Knight ∷ man White Pawn ∷ man Black King ∷ man Black Queen ∷ man Black Rook ∷ man Black Bishop ∷ man Black Knight ∷ man Black Pawn ∷ []

-- the byte is this unit's letter
abbrev is_letter_of : ℕ → Man → Bool
is_letter_of c u = eqb (letter_of u.side u.kind) c

-- the unit of a letter, if the byte is one
abbrev pub man_at : ℕ → Option Man
man_at c = find (is_letter_of c) men

pub man_at-letter : (c : ℕ) (u : Man) → c ≡ letter_of u.side u.kind → man_at c ≡ Some u
man_at-letter c u e = ap man_at e ∙ by_men (λ s k. man_at (letter_of s k) ≡ Some (man s k)) refl refl refl refl refl refl refl refl refl refl refl refl u.side u.kind

-- what is found passes
found : (p : Man → Bool) (us : List Man) → IfSome (find p us) (λ u. p u ≡ true)
found p [] = tt
found p (u ∷ us) = by (p u) refl (found p us)
  where
    by : (b : Bool) → p u ≡ b → IfSome (find p us) (λ v. p v ≡ true) → IfSome (cond b (Some u) (find p us)) (λ v. p v ≡ true)
    by true e h = e
    by false e h = h

man_found : (c : ℕ) (u : Man) → man_at c ≡ Some u → c ≡ letter_of u.side u.kind
man_found c u e =
    let h = subst (λ (o : Option Man). IfSome o (λ v. is_letter_of c v ≡ true)) e (found (is_letter_of c) men) in
    sym (eqb-true (letter_of u.side u.kind) c h)

-- a byte that is no unit's letter
pub man_at-none : (c : ℕ) → ((u : Man) → c ≡ letter_of u.side u.kind → ⊥) → man_at c ≡ None
man_at-none c other = by (man_at c) refl
  where
    by : (o : Option Man) → man_at c ≡ o → man_at c ≡ None
    by None e = e
    by (Some u) e = absurd (other u (man_found c u e))

-- a letter is that of one unit
pub one_unit : (u v : Man) → letter_of u.side u.kind ≡ letter_of v.side v.kind → u ≡ v
one_unit u v e = let both : Some u ≡ Some v = sym (man_at-letter _ u refl) ∙ man_at-letter _ v e in cc

letter_bounds : (s : Side) (k : Kind) → 57 < letter_of s k
letter_bounds = by_men (λ s k. 57 < letter_of s k) (lit< tt) (lit< tt) (lit< tt) (lit< tt) (lit< tt) (lit< tt) (lit< tt) (lit< tt) (lit< tt) (lit< tt) (lit< tt) (lit< tt)

pub letter_above : (s : Side) (k : Kind) → 47 < letter_of s k
letter_above s k = omega (arith, letter_bounds s k)

-- ---- digits

pub is_digit-from : (d : ℕ) → d < 10 → is_digit (48 + d) ≡ true
is_digit-from d h = grind (arith, nat_tests)

pub digit_bounds : (c : ℕ) → is_digit c ≡ true → (48 ≤ c) × (c ≤ 57)
digit_bounds c h = (grind (arith, nat_tests), grind (arith, nat_tests))

pub letter_no_digit : (u : Man) → is_digit (letter_of u.side u.kind) ≡ false
letter_no_digit u = let h = letter_bounds u.side u.kind in grind (arith, nat_tests)

pub no_digit : (c d : ℕ) (u : Man) → c ≡ letter_of u.side u.kind → d < 10 → c ≡ 48 + d → ⊥
no_digit c d u e h f = omega (arith, letter_bounds u.side u.kind)

pub width_more : (c : ℕ) (row : List ℕ) → row_width (c ∷ row) ≡ cond (is_digit c) (c - 48) 1 + row_width row
width_more c row = sum_by-cons (λ x. cond (is_digit x) (x - 48) 1) c row

-- ---- counts

-- what stands there is played
abbrev pub IsPlayedAt : Game → Option Man → Type 0
IsPlayedAt g x = IfSome x (λ u. IsPlayed g u.kind)

abbrev pub IsNoPawn : Option Man → Type 0
IsNoPawn x = IfSome x (λ u. u.kind ≡ Pawn → ⊥)

-- a test of a byte says of a letter what the test of a place says of its unit
pub record Agrees (p : ℕ → Bool) (q : Option Man → Bool) : Type 0 where
  pub separator_no : p 47 ≡ false
  pub digits_no : (d : ℕ) → d < 10 → p (48 + d) ≡ false
  pub empty_no : q None ≡ false
  pub same : (u : Man) → p (letter_of u.side u.kind) ≡ q (Some u)

pub count_more : {X : Type 0} (p : X → Bool) (x : X) (xs : List X) → count_by p (x ∷ xs) ≡ cond (p x) 1 0 + count_by p xs
count_more p x xs = sum_by-cons (λ y. cond (p y) 1 0) x xs

pub count_append : {X : Type 0} (p : X → Bool) (xs ys : List X) → count_by p (xs ++ ys) ≡ count_by p xs + count_by p ys
count_append p xs ys = sum_by-append (λ y. cond (p y) 1 0) xs ys

abbrev pub weight : Bool → ℕ
weight b = cond b 1 0

pub count_empty : (q : Option Man → Bool) (d : ℕ) → q None ≡ false → count_by q (replicate d None) ≡ 0
count_empty q zero e = refl
count_empty q (suc d) e = omega (arith, count_more q None (replicate d None), ap weight e, count_empty q d e)

pub row_count : (p : ℕ → Bool) (q : Option Man → Bool) → Agrees p q → (row : List ℕ) (units : List (Option Man)) → IsRankText row units → count_by q units ≡ count_by p row
row_count p q a [] units end = refl
row_count p q a (c ∷ row) old (unit {units = units} u e r) =
    omega (arith, count_more q (Some u) units, count_more p c row, ap weight (ap p e ∙ a.same u), row_count p q a row units r)
row_count p q a (c ∷ row) old (run {units = units} d h k e s r) =
    omega (arith, count_append q (replicate d None) units, count_empty q d a.empty_no, count_more p c row, ap weight (ap p e ∙ a.digits_no d k), row_count p q a row units r)

pub kings_agree : (side : Side) → Agrees (λ c. eqb c (letter_of side King)) (is_king_of side)
kings_agree side = record {
  separator_no = ne_eqb _ _ (λ e. omega (arith, letter_bounds side King));
  digits_no = λ d h. ne_eqb _ _ (λ e. omega (arith, letter_bounds side King));
  empty_no = refl;
  same = λ u. by_sides (λ s. eqb (letter_of u.side u.kind) (letter_of s King) ≡ is_king_of s (Some u))
      (by_men (λ s k. eqb (letter_of s k) 75 ≡ is_king_of White (Some (man s k))) refl refl refl refl refl refl refl refl refl refl refl refl u.side u.kind)
      (by_men (λ s k. eqb (letter_of s k) 107 ≡ is_king_of Black (Some (man s k))) refl refl refl refl refl refl refl refl refl refl refl refl u.side u.kind)
      side;
}

pub sides_agree : (side : Side) → Agrees (is_case_of side) (is_of_side side)
sides_agree side = record {
  separator_no = by_sides (λ s. is_case_of s 47 ≡ false) refl refl side;
  digits_no = λ d h. by_sides (λ s. is_case_of s (48 + d) ≡ false) (grind (arith, nat_tests)) (grind (arith, nat_tests)) side;
  empty_no = refl;
  same = λ u. by_sides (λ s. is_case_of s (letter_of u.side u.kind) ≡ is_of_side s (Some u))
      (by_men (λ s k. is_case_of White (letter_of s k) ≡ is_of_side White (Some (man s k))) refl refl refl refl refl refl refl refl refl refl refl refl u.side u.kind)
      (by_men (λ s k. is_case_of Black (letter_of s k) ≡ is_of_side Black (Some (man s k))) refl refl refl refl refl refl refl refl refl refl refl refl u.side u.kind)
      side;
}
