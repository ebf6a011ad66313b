-- What holds of some result.
use Rattle.std.proofs.Common.{◌≡◌, refl, subst, Option, None, Some, MatchOption}

-- what some value gives weakens
pub some_weaker : {A : Type 0} (r : Option A) (S : Type 0) (P Q : A → Type 0) → ((a : A) → P a → Q a) → MatchOption r S P → MatchOption r S Q
some_weaker None S P Q f h = h
some_weaker (Some a) S P Q f h = f a h

-- what no value gives
pub none_at : {A : Type 0} (r : Option A) (S : Type 0) (P : A → Type 0) → ((a : A) → r ≡ Some a → ⊥) → MatchOption r S P → S
none_at None S P not h = h
none_at (Some a) S P not h = absurd (not a refl)

-- what this value gives
pub some_at : {A : Type 0} (r : Option A) (a : A) (S : Type 0) (P : A → Type 0) → r ≡ Some a → MatchOption r S P → P a
some_at r a S P is h = subst (λ x. MatchOption x S P) is h

-- what is no value is none
pub none_is : {A : Type 0} (r : Option A) → ((a : A) → r ≡ Some a → ⊥) → r ≡ None
none_is None not = refl
none_is (Some a) not = absurd (not a refl)
