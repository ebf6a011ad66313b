-- A board has one list of its lawful moves.
use Rattle.std.proofs.Common.{◌≡◌, ◌↔◌, ◌⊎◌, ℕ, zero, suc, ◌<◌, List, [], ◌∷◌, length, get_or, refl, sym, ap, ◌∙◌, subst, inl, inr, arith, Contains, AllPairs}
use Rattle.wintree.proofs.Common.{PlainBoard, Ply, IsPlyBefore, ListsLawful}

pub among_first : {X : Type 0} (x : X) (xs : List X) → Contains (x ∷ xs) x
among_first x xs = (zero, omega arith, refl)

among_later : {X : Type 0} (x : X) (xs : List X) (z : X) → Contains xs z → Contains (x ∷ xs) z
among_later x xs z among = (suc among.0, omega (arith, among.1), among.2)

among_at : {X : Type 0} (m : X) (moves : List X) (r : X) (k : ℕ) → k < length (m ∷ moves) → get_or (m ∷ moves) k r ≡ r → (m ≡ r) ⊎ Contains moves r
among_at m moves r zero in_range e = inl e
among_at m moves r (suc k) in_range e = inr (k, omega arith, e)

pub among_more : {X : Type 0} (m : X) (moves : List X) (r : X) → Contains (m ∷ moves) r → (m ≡ r) ⊎ Contains moves r
among_more m moves r among = among_at m moves r among.0 among.1 among.2

-- a list in a strict order is told by what it contains
module _ {X : Type 0} (R : X → X → Type 0) (one_way : (a b : X) → R a b → R b a → ⊥) where
  before_later : (x : X) (xs : List X) (z : X) → AllPairs R (x ∷ xs) → Contains xs z → R x z
  before_later x xs z ordered among =
      subst (R x) among.2 (ordered zero (suc among.0) z (omega arith) (omega (arith, among.1)))

  tail_ordered : (x : X) (xs : List X) → AllPairs R (x ∷ xs) → AllPairs R xs
  tail_ordered x xs ordered i j d lt within = ordered (suc i) (suc j) d (omega arith) (omega arith)

  same_first : (x : X) (xs : List X) (y : X) (ys : List X) → AllPairs R (x ∷ xs) → AllPairs R (y ∷ ys) → ((z : X) → Contains (x ∷ xs) z ↔ Contains (y ∷ ys) z) → x ≡ y
  same_first x xs y ys in_order also same =
      elim (among_more y ys x ((same x).0 (among_first x xs))) as (λ _. x ≡ y) [
        | inl e ↦ sym e
        | inr x_later ↦ elim (among_more x xs y ((same y).1 (among_first y ys))) as (λ _. x ≡ y) [
          | inl e ↦ e
          | inr y_later ↦ absurd (one_way x y (before_later x xs y in_order y_later) (before_later y ys x also x_later))
        ]
      ]

  later_too : (x : X) (xs : List X) (y : X) (ys : List X) → AllPairs R (x ∷ xs) → x ≡ y → ((z : X) → Contains (x ∷ xs) z → Contains (y ∷ ys) z) → (z : X) → Contains xs z → Contains ys z
  later_too x xs y ys in_order first into z among =
      elim (among_more y ys z (into z (among_later x xs z among))) as (λ _. Contains ys z) [
        | inl e ↦
            let itself : R z z = subst (λ w. R w z) (first ∙ e) (before_later x xs z in_order among) in
            absurd (one_way z z itself itself)
        | inr later ↦ later
      ]

  one_listing : (xs ys : List X) → AllPairs R xs → AllPairs R ys → ((z : X) → Contains xs z ↔ Contains ys z) → xs ≡ ys
  one_listing [] [] in_order also same = refl
  one_listing [] (y ∷ ys) in_order also same = let none = (same y).1 (among_first y ys) in absurd (omega (arith, none.1))
  one_listing (x ∷ xs) [] in_order also same = let none = (same x).0 (among_first x xs) in absurd (omega (arith, none.1))
  one_listing (x ∷ xs) (y ∷ ys) in_order also same =
      let first : x ≡ y = same_first x xs y ys in_order also same in
      let rest : xs ≡ ys = one_listing xs ys (tail_ordered x xs in_order) (tail_ordered y ys also)
      (λ z. (later_too x xs y ys in_order first (λ w. (same w).0) z, later_too y ys x xs also (sym first) (λ w. (same w).1) z)) in
      ap (λ z. z ∷ xs) first ∙ ap (λ zs. y ∷ zs) rest

pub lower_once : (f f' t t' p p' : ℕ) → (f < f') ⊎ ((f ≡ f') × (t < t')) ⊎ ((f ≡ f') × (t ≡ t') × (p < p')) → (f' < f) ⊎ ((f' ≡ f) × (t' < t)) ⊎ ((f' ≡ f) × (t' ≡ t) × (p' < p)) → ⊥
lower_once f f' t t' p p' (inl a) (inl b) = omega (arith, a, b)
lower_once f f' t t' p p' (inl a) (inr (inl b)) = omega (arith, a, b.0)
lower_once f f' t t' p p' (inl a) (inr (inr b)) = omega (arith, a, b.0)
lower_once f f' t t' p p' (inr (inl a)) (inl b) = omega (arith, a.0, b)
lower_once f f' t t' p p' (inr (inl a)) (inr (inl b)) = omega (arith, a.1, b.1)
lower_once f f' t t' p p' (inr (inl a)) (inr (inr b)) = omega (arith, a.1, b.1)
lower_once f f' t t' p p' (inr (inr a)) (inl b) = omega (arith, a.0, b)
lower_once f f' t t' p p' (inr (inr a)) (inr (inl b)) = omega (arith, a.1, b.1)
lower_once f f' t t' p p' (inr (inr a)) (inr (inr b)) = omega (arith, a.2, b.2)

-- there is one list of a board's lawful moves
pub one_list : (b : PlainBoard) (moves others : List Ply) → ListsLawful b moves → ListsLawful b others → moves ≡ others
one_list b moves others lists also =
    one_listing (IsPlyBefore b.game) (λ m n. lower_once _ _ _ _ _ _) moves others lists.ordered also.ordered
    (λ m. (λ among. (also.exact m).1 ((lists.exact m).0 among), λ among. (lists.exact m).1 ((also.exact m).0 among)))
