-- Each move of a deque keeps every task below the number of jobs, and what is dealt goes on.
use Rattle.std.proofs.Common.{◌≡◌, ℕ, ◌+◌, ◌<◌, All, List, [], ◌∷◌, ◌++◌, length, subst, sym, ap, ◌∙◌, refl, append_assoc}
use lib.Seq.{take-append_seam, drop-append_seam}
use Rattle.std.proofs.lemmas.List.Elements.{All-append, All-take, All-drop}
use Rattle.crossbeam_deque.specs.Tasks.{Pushes, Takes, Pops}
use Rattle.jobs.specs.Deals.{Deals, one_more}

module _ (n : ℕ) where
  abbrev below : ℕ → Type 0
  below x = x < n

  left : (xs ys : List ℕ) → All below (xs ++ ys) → All below xs
  left xs ys h = subst (All below) (take-append_seam xs ys) (All-take below (length xs) (xs ++ ys) h)

  right : (xs ys : List ℕ) → All below (xs ++ ys) → All below ys
  right xs ys h = subst (All below) (drop-append_seam xs ys) (All-drop below (length xs) (xs ++ ys) h)

  module _ (V : Type 0) where
    abbrev Holds : List ℕ → List V → Type 0
    Holds items _ = All below items

    pub takes : (port : ℕ) (v : V) (most : ℕ) → Takes Holds port v most (λ xs _. All below xs)
    takes port v most xs items views _ _ h _ = (v, right xs items h, left xs items h)

    pub pops : (port : ℕ) (v : V) → Pops Holds port v (λ xs _. All below xs)
    pops port v x items views h _ = (v, left items (x ∷ []) h, right items (x ∷ []) h)

  pub pushes : (port : ℕ) (v : List ℕ) (xs : List ℕ) → All below xs → Pushes (Holds (List ℕ)) port v xs (λ w. w ≡ v ++ xs)
  pushes port v xs new items views h _ = (v ++ xs, All-append below items xs h new, refl)

-- what is dealt so far, before all that is left
abbrev pub DealtTo : ℕ → ℕ → ℕ → List ℕ → ℕ → Type 0
DealtTo step count from put job = (rest : List ℕ) → Deals step count job rest → Deals step count from (put ++ rest)

pub dealt_next : (step count from job : ℕ) (put put' : List ℕ) → put' ≡ put ++ job ∷ [] → job < count → DealtTo step count from put job → DealtTo step count from put' (job + step)
dealt_next step count from job put put' is lt so_far rest more =
    subst (Deals step count from) (sym (append_assoc put (job ∷ []) rest) ∙ ap (λ (l : List ℕ). l ++ rest) (sym is)) (so_far (job ∷ rest) (one_more lt more))
