-- The list of all leaps, and the steps that a reading of a piece string has at each.
use Rattle.std.proofs.Common.{◌≡◌, ℕ, ◌+◌, ◌<◌, ◌≤◌, ℤ, pos, negsuc, neg_ℤ, ◌<ℤ◌, ◌⊎◌, inl, inr, List, [], ◌∷◌, ◌++◌, length, All, AllPairs, length-append, length-take, get_or-take, take, Bool, ◌&&◌, ◌||◌, zero, suc, Contains, get_or, refl, sym, ap, subst, ◌∙◌, arith, lit<, true, cond, eqb}
use Rattle.std.specs.Int.RustNames.{unsigned_abs}
use Rattle.std.proofs.lemmas.Int.{ints}
use Rattle.std.specs.Int.Signed.{lt_z}
use Rattle.std.specs.Ordering.{int_eq}
use Rattle.board.proofs.Common.{list_all, and_parts, Decides-int_eq, AllPass-from_list_all, All-from_get_or, All-push, All-weaker, All-contains, All-get_or, Contains-append_left, Contains-push, Contains-push_cases, all_pairs_push, Atom, Wazir, Ferz, Term, LEAPS, IsAtomLeap, IsTermLeap, Denotes, AreDistinct, IsStepBefore, ListsSteps}
use Rattle.std.proofs.lemmas.Grind.{common_steps, elements}
use Rattle.board.specs.declared.step.Step.{Step}
use Rattle.board.specs.declared.terms.Atom.TheVariants.{Knight}

-- what holds at both signs of both numbers holds at all numbers of that size
by_signs : (P : ℤ → ℤ → Type 0) (m n : ℕ) → P (pos m) (pos n) → P (pos m) (neg_ℤ (pos n)) → P (neg_ℤ (pos m)) (pos n) → P (neg_ℤ (pos m)) (neg_ℤ (pos n)) → (x y : ℤ) → unsigned_abs x ≡ m → unsigned_abs y ≡ n → P x y
by_signs P m n pp pn np nn (pos a) (pos b) e f = rw (e, f) pp
by_signs P m n pp pn np nn (pos a) (negsuc b) e f = rw (← e, ← f) at pn
by_signs P m n pp pn np nn (negsuc a) (pos b) e f = rw (← e, ← f) at np
by_signs P m n pp pn np nn (negsuc a) (negsuc b) e f = rw (← e, ← f) at nn

abbrev Listed : ℤ → ℤ → Type 0
Listed x y = Contains LEAPS (x, y)

pub leap_listed : (a : Atom) (x y : ℤ) → IsAtomLeap a x y → Listed x y
leap_listed Wazir x y (inl h) = by_signs Listed 1 0 (11, lit< tt, refl) (11, lit< tt, refl) (4, lit< tt, refl) (4, lit< tt, refl) x y h.0 h.1
leap_listed Wazir x y (inr h) = by_signs Listed 0 1 (8, lit< tt, refl) (7, lit< tt, refl) (8, lit< tt, refl) (7, lit< tt, refl) x y h.0 h.1
leap_listed Ferz x y (inl h) = by_signs Listed 1 1 (12, lit< tt, refl) (10, lit< tt, refl) (5, lit< tt, refl) (3, lit< tt, refl) x y h.0 h.1
leap_listed Ferz x y (inr h) = by_signs Listed 1 1 (12, lit< tt, refl) (10, lit< tt, refl) (5, lit< tt, refl) (3, lit< tt, refl) x y h.0 h.1
leap_listed Knight x y (inl h) = by_signs Listed 1 2 (13, lit< tt, refl) (9, lit< tt, refl) (6, lit< tt, refl) (2, lit< tt, refl) x y h.0 h.1
leap_listed Knight x y (inr h) = by_signs Listed 2 1 (15, lit< tt, refl) (14, lit< tt, refl) (1, lit< tt, refl) (0, lit< tt, refl) x y h.0 h.1

-- how far an atom leaps, along both axes together
abbrev reach_of : Atom → ℕ
reach_of Wazir = 1
reach_of Ferz = 2
reach_of Knight = 3

leap_reach : (a : Atom) (x y : ℤ) → IsAtomLeap a x y → unsigned_abs x + unsigned_abs y ≡ reach_of a
leap_reach Wazir x y (inl h) = omega (arith, h.0, h.1)
leap_reach Wazir x y (inr h) = omega (arith, h.0, h.1)
leap_reach Ferz x y (inl h) = omega (arith, h.0, h.1)
leap_reach Ferz x y (inr h) = omega (arith, h.0, h.1)
leap_reach Knight x y (inl h) = omega (arith, h.0, h.1)
leap_reach Knight x y (inr h) = omega (arith, h.0, h.1)

abbrev atom_at : ℕ → Atom
atom_at reach = cond (eqb reach 1) Wazir (cond (eqb reach 2) Ferz Knight)

atom_at-reach : (a : Atom) → atom_at (reach_of a) ≡ a
atom_at-reach Wazir = refl
atom_at-reach Ferz = refl
atom_at-reach Knight = refl

-- no leap is that of two atoms
one_atom : (a b : Atom) (x y : ℤ) → IsAtomLeap a x y → IsAtomLeap b x y → a ≡ b
one_atom a b x y h k = sym (atom_at-reach a) ∙ ap atom_at (sym (leap_reach a x y h) ∙ leap_reach b x y k) ∙ atom_at-reach b

one_term : (terms : List Term) (j k : ℕ) (t : Term) → AreDistinct terms → j < length terms → k < length terms → (get_or terms j t).atom ≡ (get_or terms k t).atom → j ≡ k
one_term terms j k t d p q e = grind (arith, d j k t, d k j t)

same_step : (s u : Step) → s.dx ≡ u.dx → s.dy ≡ u.dy → s.rider ≡ u.rider → s.mode ≡ u.mode → s ≡ u
same_step s u a b c d = λ i. record { dx = a i; dy = b i; rider = c i; mode = d i }

-- terms of different atoms have one step at most at each leap
pub one_step : (terms : List Term) (s u : Step) → AreDistinct terms → Denotes terms s → Denotes terms u → s.dx ≡ u.dx → s.dy ≡ u.dy → s ≡ u
one_step terms s u d (j, t, p, e, h) (k, v, q, f, g) ex ey =
    let leap : IsAtomLeap v.atom s.dx s.dy = rw (ex, ey) g.leap.atom in
    let atoms : t.atom ≡ v.atom = one_atom t.atom v.atom s.dx s.dy h.leap.atom leap in
    let at_t : get_or terms k t ≡ v = grind (arith, common_steps, elements) in
    let place : j ≡ k = one_term terms j k t d p q (ap (λ (x : Term). x.atom) e ∙ atoms ∙ sym (ap (λ (x : Term). x.atom) at_t)) in
    let terms_same : t ≡ v = cc in
    same_step s u ex ey (h.rider ∙ ap (λ (x : Term). x.rider) terms_same ∙ sym g.rider) (h.mode ∙ ap (λ (x : Term). x.mode) terms_same ∙ sym g.mode)

-- a leap comes before another: by dx, then by dy
abbrev pub IsBefore : ℤ × ℤ → ℤ × ℤ → Type 0
IsBefore p q = (p.0 <ℤ q.0) ⊎ ((p.0 ≡ q.0) × (p.1 <ℤ q.1))

-- the list has exactly the steps of the terms at the leaps seen so far, in order
pub record Collects (terms : List Term) (seen : List (ℤ × ℤ)) (steps : List Step) : Type 0 where
  pub short : length steps ≤ length seen
  pub denoted : All (λ s. Denotes terms s × Contains seen (s.dx, s.dy)) steps
  pub complete : (s : Step) → Contains seen (s.dx, s.dy) → Denotes terms s → Contains steps s
  pub ordered : AllPairs IsStepBefore steps

-- the steps so far among one more leap
still_denoted : (terms : List Term) (seen : List (ℤ × ℤ)) (steps : List Step) (p : ℤ × ℤ) → Collects terms seen steps → All (λ s. Denotes terms s × Contains (seen ++ p ∷ []) (s.dx, s.dy)) steps
still_denoted terms seen steps p c = All-weaker (λ s. Denotes terms s × Contains seen (s.dx, s.dy)) (λ s. Denotes terms s × Contains (seen ++ p ∷ []) (s.dx, s.dy)) (λ s h. (h.0, Contains-append_left seen (p ∷ []) (s.dx, s.dy) h.1)) steps c.denoted

pub Collects-skip : (terms : List Term) (seen : List (ℤ × ℤ)) (steps : List Step) (p : ℤ × ℤ) → Collects terms seen steps → All (λ t. IsTermLeap t p.0 p.1 → ⊥) terms → Collects terms (seen ++ p ∷ []) steps
Collects-skip terms seen steps p c none = record {
  short = omega (arith, c.short, length-append seen (p ∷ []));
  denoted = still_denoted terms seen steps p c;
  complete = λ s h (k, t, q, e, ts). elim (Contains-push_cases seen p (s.dx, s.dy) h) [
    | inl old ↦ c.complete s old (k, t, q, e, ts)
    | inr new ↦ absurd (subst (λ x. IsTermLeap t x.0 x.1 → ⊥) new (All-contains (λ t. IsTermLeap t p.0 p.1 → ⊥) terms t none (k, q, e)) ts.leap)
  ];
  ordered = c.ordered;
}

pub Collects-push : (terms : List Term) (seen : List (ℤ × ℤ)) (steps : List Step) (p : ℤ × ℤ) (u : Step) → Collects terms seen steps → AreDistinct terms → All (λ q. IsBefore q p) seen → u.dx ≡ p.0 → u.dy ≡ p.1 → Denotes terms u → Collects terms (seen ++ p ∷ []) (steps ++ u ∷ [])
Collects-push terms seen steps p u c distinct before ex ey has =
    let here : (u.dx, u.dy) ≡ p = λ i. (ex i, ey i) in
    record {
      short = omega (arith, c.short, length-append seen (p ∷ []), length-append steps (u ∷ []));
      denoted = All-push (λ s. Denotes terms s × Contains (seen ++ p ∷ []) (s.dx, s.dy)) steps u (still_denoted terms seen steps p c) (has, subst (λ x. Contains (seen ++ p ∷ []) x) (sym here) (Contains-push seen p));
      complete = λ s h ds. elim (Contains-push_cases seen p (s.dx, s.dy) h) [
        | inl old ↦ Contains-append_left steps (u ∷ []) s (c.complete s old ds)
        | inr new ↦ subst (Contains (steps ++ u ∷ [])) (one_step terms u s distinct has ds (ap (λ x. x.0) (here ∙ new)) (ap (λ x. x.1) (here ∙ new))) (Contains-push steps u)
      ];
      ordered = all_pairs_push IsStepBefore steps u c.ordered (λ k d lt.
          let it = All-get_or (λ s. Denotes terms s × Contains seen (s.dx, s.dy)) steps k d lt c.denoted in
          subst (IsBefore ((get_or steps k d).dx, (get_or steps k d).dy)) (sym here) (All-contains (λ q. IsBefore q p) seen _ before it.1));
    }

pub Collects-all : (terms : List Term) (steps : List Step) → Collects terms LEAPS steps → ListsSteps terms steps
Collects-all terms steps c = record {
  ordered = c.ordered;
  exact = λ s. (
    λ h. (All-contains (λ s. Denotes terms s × Contains LEAPS (s.dx, s.dy)) steps s c.denoted h).0,
    λ (k, t, q, e, ts). c.complete s (leap_listed t.atom s.dx s.dy ts.leap.atom) (k, t, q, e, ts),
  );
}

-- ---- the leaps are in order

before_test : ℤ × ℤ → ℤ × ℤ → Bool
before_test p q = lt_z p.0 q.0 || (int_eq p.0 q.0 && lt_z p.1 q.1)

sorted_test : List (ℤ × ℤ) → Bool
sorted_test [] = true
sorted_test (x ∷ xs) = list_all (before_test x) xs && sorted_test xs

IsBefore-from_test : (p q : ℤ × ℤ) → before_test p q ≡ true → IsBefore p q
unfolding before_test
IsBefore-from_test p q h = grind (arith, ints, Decides-int_eq)

sorted_pairs : (xs : List (ℤ × ℤ)) → sorted_test xs ≡ true → (i j : ℕ) (d : ℤ × ℤ) → i < j → j < length xs → before_test (get_or xs i d) (get_or xs j d) ≡ true
unfolding sorted_test
sorted_pairs [] h i j d p q = absurd (omega arith)
sorted_pairs (x ∷ xs) h zero zero d p q = absurd (omega arith)
sorted_pairs (x ∷ xs) h zero (suc j) d p q =
    All-get_or (λ y. before_test x y ≡ true) xs j d (omega arith) (AllPass-from_list_all (before_test x) xs (and_parts (list_all (before_test x) xs) (sorted_test xs) h).0)
sorted_pairs (x ∷ xs) h (suc i) zero d p q = absurd (omega arith)
sorted_pairs (x ∷ xs) h (suc i) (suc j) d p q =
    sorted_pairs xs (and_parts (list_all (before_test x) xs) (sorted_test xs) h).1 i j d (omega arith) (omega arith)

pub all_before : (i : ℕ) (d : ℤ × ℤ) → i < length LEAPS → All (λ q. IsBefore q (get_or LEAPS i d)) (take i LEAPS)
unfolding sorted_test before_test
all_before i d h = All-from_get_or (λ q. IsBefore q (get_or LEAPS i d)) (take i LEAPS) d
    (λ k lt. let below : k < i = omega (arith, lt, length-take {A = ℤ × ℤ}) in
    subst (λ x. IsBefore x (get_or LEAPS i d)) (sym (get_or-take i LEAPS k d below)) (IsBefore-from_test _ _ (sorted_pairs LEAPS refl k i d below h)))

-- ---- every step goes somewhere

reach_pos : (a : Atom) → 0 < reach_of a
reach_pos Wazir = lit< tt
reach_pos Ferz = lit< tt
reach_pos Knight = lit< tt

pub goes_somewhere : (terms : List Term) (s : Step) → Denotes terms s → 0 < unsigned_abs s.dx + unsigned_abs s.dy
goes_somewhere terms s (k, t, q, e, ts) = omega (arith, leap_reach t.atom s.dx s.dy ts.leap.atom, reach_pos t.atom)
