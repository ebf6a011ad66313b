-- Lists that stand in a relation place by place.
use Rattle.std.proofs.Common.{◌≡◌, ℕ, suc, ◌<◌, List, [], ◌∷◌, length, take, get_or, map, reverse, ◌++◌, All, sym, subst, arith}
use Rattle.std.specs.List.{AllZip}
use lib.Seq.{take-append_seam}
use Rattle.std.proofs.lemmas.Grind.{reverse_onto}
use Rattle.std.proofs.lemmas.List.Elements.{AllZip-push, All-head, All-tail}

module _ {X : Type 0} (R : X → X → Type 0) where
  -- by number
  pub zip_each : (xs ys : List X) → length ys ≡ length xs → ((i : ℕ) (d : X) → i < length xs → R (get_or xs i d) (get_or ys i d)) → AllZip R xs ys
  zip_each [] [] e h = tt
  zip_each [] (y ∷ ys) e h = absurd (omega (arith, e))
  zip_each (x ∷ xs) [] e h = absurd (omega (arith, e))
  zip_each (x ∷ xs) (y ∷ ys) e h = (h 0 x (omega arith), zip_each xs ys (omega (arith, e)) (λ i d lt. h (suc i) d (omega (arith, lt))))

  -- each with itself
  pub zip_same : (P : X → Type 0) → ((x : X) → P x → R x x) → (xs : List X) → All P xs → AllZip R xs xs
  zip_same P h [] a = tt
  zip_same P h (x ∷ xs) a = (h x (All-head P x xs a), zip_same P h xs (All-tail P x xs a))

  -- each with itself, but for the last
  pub zip_last : (P : X → Type 0) → ((x : X) → P x → R x x) → (xs xs' ys : List X) (s s' : X) → xs ≡ ys ++ s ∷ [] → xs' ≡ ys ++ s' ∷ [] → All P ys → R s s' → AllZip R xs xs'
  zip_last P h xs xs' ys s s' e e' a on =
      subst (λ (l : List X × List X). AllZip R l.0 l.1) (λ i. (sym e i, sym e' i)) (AllZip-push R ys ys s s' (zip_same P h ys a) on)

  -- one after the other
  pub zip_then : ((x y z : X) → R x y → R y z → R x z) → (xs ys zs : List X) → AllZip R xs ys → AllZip R ys zs → AllZip R xs zs
  zip_then t [] [] [] p q = tt
  zip_then t [] [] (z ∷ zs) p q = absurd q
  zip_then t [] (y ∷ ys) zs p q = absurd p
  zip_then t (x ∷ xs) [] zs p q = absurd p
  zip_then t (x ∷ xs) (y ∷ ys) [] p q = absurd q
  zip_then t (x ∷ xs) (y ∷ ys) (z ∷ zs) p q = (t x y z p.0 q.0, zip_then t xs ys zs p.1 q.1)

  -- the parts of both, from the last on
  pub zip_back : {S : Type 0} (f : S → X) (xs ys : List S) → AllZip (λ a b. R (f a) (f b)) xs ys → AllZip R (reverse (map f xs)) (reverse (map f ys))
  zip_back f [] [] p = tt
  zip_back f [] (y ∷ ys) p = absurd p
  zip_back f (x ∷ xs) [] p = absurd p
  zip_back f (x ∷ xs) (y ∷ ys) p =
      subst (λ (l : List X × List X). AllZip R l.0 l.1) (λ i. (sym (reverse_onto (map f xs) (f x) []) i, sym (reverse_onto (map f ys) (f y) []) i))
      (AllZip-push R (reverse (map f xs)) (reverse (map f ys)) (f x) (f y) (zip_back f xs ys p.1) p.0)

-- as many as there are, of those and others
pub take_whole : {X : Type 0} (n : ℕ) (xs ys : List X) → length xs ≡ n → take n (xs ++ ys) ≡ xs
take_whole n xs ys e = subst (λ (k : ℕ). take k (xs ++ ys) ≡ xs) e (take-append_seam xs ys)
