-- A fact of each seat, after one of them has moved or one more has come.
use Rattle.std.proofs.Common.{◌≡◌, ◌≢◌, ◌⊎◌, ℕ, zero, suc, ◌<◌, List, [], ◌∷◌, ◌++◌, length, set, refl, sym, ap, subst, ⊎_elim, inl, inr, arith}
use mathlib.Core.Option as option
use lib.ListN.{get_elem?}
use Rattle.slots.proofs.Common.{at_set, Glance, EachSeat}

pub inside : {A : Type 0} (l : List A) (i : ℕ) (a : A) → get_elem? l i ≡ option.some a → i < length l
inside [] i a e = absurd (option.some-ne-none a (sym e))
inside (x ∷ xs) zero a e = omega arith
inside (x ∷ xs) (suc i) a e = let h = inside xs i a e in omega arith

pub snoc_at : {A : Type 0} (l : List A) (a b : A) (j : ℕ) → get_elem? (l ++ a ∷ []) j ≡ option.some b → (get_elem? l j ≡ option.some b) ⊎ ((j ≡ length l) × (a ≡ b))
snoc_at [] a b zero e = inr (refl, option.some-injective a b e)
snoc_at [] a b (suc j) e = absurd (option.some-ne-none b (sym e))
snoc_at (x ∷ xs) a b zero e = inl e
snoc_at (x ∷ xs) a b (suc j) e = ⊎_elim (λ t. inl t) (λ t. inr (ap suc t.0, t.1)) (snoc_at xs a b j e)

-- one seat moved: the fact holds of it, and still of the others
pub each_moved : (seats : List Glance) (id : ℕ) (new : Glance) (P : ℕ → Glance → Type 0) → ((j : ℕ) (g : Glance) → j ≢ id → get_elem? seats j ≡ option.some g → P j g) → P id new → EachSeat (set seats id new) P
each_moved seats id new P others own = λ j g e. ⊎_elim
    (λ (t : (j ≡ id) × (new ≡ g)). subst (λ (z : ℕ × Glance). P z.0 z.1) (λ i. (sym t.0 i, t.1 i)) own)
    (λ (t : (j ≢ id) × (get_elem? seats j ≡ option.some g)). others j g t.0 t.1)
    (at_set seats id j new g e)

-- one seat came, behind the others
pub each_more : (seats : List Glance) (new : Glance) (P : ℕ → Glance → Type 0) → EachSeat seats P → P (length seats) new → EachSeat (seats ++ new ∷ []) P
each_more seats new P others own = λ j g e. ⊎_elim (others j g)
    (λ (t : (j ≡ length seats) × (new ≡ g)). subst (λ (z : ℕ × Glance). P z.0 z.1) (λ i. (sym t.0 i, t.1 i)) own)
    (snoc_at seats new g j e)
