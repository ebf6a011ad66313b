-- A list of the elements that have a property, each with what it has, in order.
use Rattle.moves.proofs.Common.{◌≡◌, ℕ, ◌+◌, ◌<◌, inl, inr, suc, sym, ap, subst, ◌∙◌, arith, List, [], ◌∷◌, ◌++◌, length, take, get_or, AllPairs, Contains, ◌↔◌, Contains-push, Contains-append_left, Contains-append_cases}
use Rattle.std.proofs.lemmas.Grind.{common_steps, elements}
use Rattle.std.proofs.lemmas.List.Quantifiers.{all_pairs_push}
use Rattle.std.proofs.Math.Seq.{take-suc}

only : {X : Type 0} (m x : X) → Contains (m ∷ []) x → m ≡ x
only m x h = grind (arith, common_steps, elements, h.1, h.2)

in_place : {X : Type 0} (xs : List X) (k : ℕ) (d : X) → k < length xs → Contains xs (get_or xs k d)
in_place xs k d lt = (k, lt, grind (arith, common_steps, elements))

module _ {X K : Type 0} (R : X → X → Type 0) (of : K → X) (P : K → Type 0) where
  -- exactly what has the property, of these elements
  abbrev pub Picks : List X → List K → Type 0
  Picks xs ks = (k : K) → Contains ks k ↔ (Contains xs (of k) × P k)

  abbrev pub InOrder : List K → Type 0
  InOrder ks = AllPairs (λ k l. R (of k) (of l)) ks

  one_more : (xs : List X) (i : ℕ) (m : X) → i < length xs → m ≡ get_or xs i m → take (i + 1) xs ≡ take i xs ++ m ∷ []
  one_more xs i m lt is = let on : i + 1 ≡ suc i = omega arith in ap (λ n. take n xs) on ∙ take-suc xs i m lt ∙ ap (λ z. take i xs ++ z ∷ []) (sym is)

  before : (xs : List X) (i : ℕ) (m x : X) → i < length xs → m ≡ get_or xs i m → AllPairs R xs → Contains (take i xs) x → R x m
  before xs i m x lt is ordered h =
      let at : get_or xs h.0 m ≡ x = grind (arith, common_steps, elements, lt, h.1, h.2) in
      let small : h.0 < i = grind (arith, common_steps, elements, lt, h.1) in
      subst (λ z. R z m) at (subst (R (get_or xs h.0 m)) (sym is) (ordered h.0 i m small lt))

  -- one element more has it
  pub keep : (xs : List X) (ks : List K) (i : ℕ) (k : K) → i < length xs → of k ≡ get_or xs i (of k) → AllPairs R xs → InOrder ks → Picks (take i xs) ks
      → P k → ((l : K) → of l ≡ of k → P l → k ≡ l) → InOrder (ks ++ k ∷ []) × Picks (take (i + 1) xs) (ks ++ k ∷ [])
  keep xs ks i k lt is ordered sorted picks has one = (
    all_pairs_push (λ a b. R (of a) (of b)) ks k sorted
        (λ j d small. before xs i (of k) (of (get_or ks j d)) lt is ordered ((picks (get_or ks j d)).0 (in_place ks j d small)).0),
    subst (λ ys. Picks ys (ks ++ k ∷ [])) (sym (one_more xs i (of k) lt is)) (λ l. (
      λ c. elim (Contains-append_cases ks (k ∷ []) l c) [
        | inl old ↦ (Contains-append_left (take i xs) (of k ∷ []) (of l) ((picks l).0 old).0, ((picks l).0 old).1)
        | inr new ↦ subst (λ (x : K). Contains (take i xs ++ of k ∷ []) (of x) × P x) (only k l new) (Contains-push (take i xs) (of k), has)
      ],
      λ c. elim (Contains-append_cases (take i xs) (of k ∷ []) (of l) c.0) [
        | inl old ↦ Contains-append_left ks (k ∷ []) l ((picks l).1 (old, c.1))
        | inr new ↦ subst (Contains (ks ++ k ∷ [])) (one l (sym (only (of k) (of l) new)) c.1) (Contains-push ks k)
      ],
    )),
  )

  -- one element more doesn't have it
  pub skip : (xs : List X) (ks : List K) (i : ℕ) (m : X) → i < length xs → m ≡ get_or xs i m → Picks (take i xs) ks → ((l : K) → of l ≡ m → P l → ⊥) → Picks (take (i + 1) xs) ks
  skip xs ks i m lt is picks none = subst (λ ys. Picks ys ks) (sym (one_more xs i m lt is)) (λ l. (
    λ c. (Contains-append_left (take i xs) (m ∷ []) (of l) ((picks l).0 c).0, ((picks l).0 c).1),
    λ c. elim (Contains-append_cases (take i xs) (m ∷ []) (of l) c.0) [
      | inl old ↦ (picks l).1 (old, c.1)
      | inr new ↦ absurd (none l (sym (only m (of l) new)) c.1)
    ],
  ))
