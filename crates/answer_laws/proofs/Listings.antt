-- A list in a strict order is told by what it contains.
use Rattle.std.proofs.Common.{◌≡◌, ◌↔◌, zero, suc, List, [], ◌∷◌, refl, sym, ap, ◌∙◌, subst, inl, inr, arith, Contains, AllPairs}
use Rattle.wintree.proofs.Listings.{among_first, among_more}

module _ {X : Type 0} (R : X → X → Type 0) where
  pub before_later : (x : X) (xs : List X) (z : X) → AllPairs R (x ∷ xs) → Contains xs z → R x z
  before_later x xs z ordered among = subst (R x) among.2 (ordered zero (suc among.0) z (omega arith) (omega (arith, among.1)))

  pub tail_ordered : (x : X) (xs : List X) → AllPairs R (x ∷ xs) → AllPairs R xs
  tail_ordered x xs ordered i j d lt within = ordered (suc i) (suc j) d (omega arith) (omega arith)

  module _ (one_way : (a b : X) → R a b → R b a → ⊥) where
    same_first : (x : X) (xs : List X) (y : X) (ys : List X) → AllPairs R (x ∷ xs) → AllPairs R (y ∷ ys) → ((z : X) → Contains (x ∷ xs) z ↔ Contains (y ∷ ys) z) → x ≡ y
    same_first x xs y ys in_order also same = elim (among_more y ys x ((same x).0 (among_first x xs))) as (λ _. x ≡ y) [
      | inl e ↦ sym e
      | inr x_later ↦ elim (among_more x xs y ((same y).1 (among_first y ys))) as (λ _. x ≡ y) [
        | inl e ↦ e
        | inr y_later ↦ absurd (one_way x y (before_later x xs y in_order y_later) (before_later y ys x also x_later))
      ]
    ]

    later_too : (x : X) (xs : List X) (y : X) (ys : List X) → AllPairs R (x ∷ xs) → x ≡ y → ((z : X) → Contains (x ∷ xs) z → Contains (y ∷ ys) z) → (z : X) → Contains xs z → Contains ys z
    later_too x xs y ys in_order first into z among = elim (among_more y ys z (into z (suc among.0, omega (arith, among.1), among.2))) as (λ _. Contains ys z) [
      | inl e ↦
          let itself : R z z = subst (λ w. R w z) (first ∙ e) (before_later x xs z in_order among) in
          absurd (one_way z z itself itself)
      | inr later ↦ later
    ]

    pub one_listing : (xs ys : List X) → AllPairs R xs → AllPairs R ys → ((z : X) → Contains xs z ↔ Contains ys z) → xs ≡ ys
    one_listing [] [] in_order also same = refl
    one_listing [] (y ∷ ys) in_order also same = let none = (same y).1 (among_first y ys) in absurd (omega (arith, none.1))
    one_listing (x ∷ xs) [] in_order also same = let none = (same x).0 (among_first x xs) in absurd (omega (arith, none.1))
    one_listing (x ∷ xs) (y ∷ ys) in_order also same =
        let first : x ≡ y = same_first x xs y ys in_order also same in
        let rest : xs ≡ ys = one_listing xs ys (tail_ordered x xs in_order) (tail_ordered y ys also)
        (λ z. (later_too x xs y ys in_order first (λ w. (same w).0) z, later_too y ys x xs also (sym first) (λ w. (same w).1) z)) in
        ap (λ z. z ∷ xs) first ∙ ap (λ zs. y ∷ zs) rest
