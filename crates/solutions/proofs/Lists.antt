-- The moves of a list of which something holds, move by move.
use Rattle.std.proofs.Common.{◌≡◌, ℕ, suc, ◌+◌, ◌<◌, ◌≤◌, ◌⊎◌, inl, inr, sym, ap, subst, ◌∙◌, arith, List, [], ◌∷◌, ◌++◌, length, length-take, take, get_or, get_or-take, AllPairs, All, Contains, Some, slice_get}
use Rattle.solutions.proofs.Common.{common_steps, elements, take_all, All-push, All-get_or, All-contains, Contains-push, Contains-append_left, Contains-append_cases, Game, PlainBoard, Ply, IsLawful, IsPlyBefore, ListsLawful, Wins, WinsIn, ListsMoves, same_some, same_default}
use Rattle.std.proofs.Math.Seq.{take-suc}
use Rattle.moves.proofs.Picking.{Picks, keep, skip}
use Rattle.problems.specs.declared.root.Root.{Root}
use Rattle.rules.proofs.Lists.{split3}

-- ---- one element more

module _ {X : Type 0} (xs : List X) (i : ℕ) (m : X) (within : i < length xs) (is : m ≡ get_or xs i m) where
  pub take_more : take (i + 1) xs ≡ take i xs ++ m ∷ []
  take_more = let on : i + 1 ≡ suc i = omega arith in ap (λ n. take n xs) on ∙ take-suc xs i m within ∙ ap (λ z. take i xs ++ z ∷ []) (sym is)

  -- what holds of those before and of this one
  pub all_more : (P : X → Type 0) → All P (take i xs) → P m → All P (take (i + 1) xs)
  all_more P before here = subst (All P) (sym take_more) (All-push P (take i xs) m before here)

  pub among_before : (x : X) → Contains (take i xs) x → Contains (take (i + 1) xs) x
  among_before x c = subst (λ ys. Contains ys x) (sym take_more) (Contains-append_left (take i xs) (m ∷ []) x c)

  pub among_here : Contains (take (i + 1) xs) m
  among_here = subst (λ ys. Contains ys m) (sym take_more) (Contains-push (take i xs) m)

  only : (x : X) → Contains (m ∷ []) x → x ≡ m
  only x h = grind (arith, common_steps, elements, h.1, h.2)

  pub among_cases : (x : X) → Contains (take (i + 1) xs) x → Contains (take i xs) x ⊎ (x ≡ m)
  among_cases x c = elim (Contains-append_cases (take i xs) (m ∷ []) x (subst (λ ys. Contains ys x) take_more c)) [
    | inl old ↦ inl old
    | inr new ↦ inr (only x new)
  ]

-- the first lawful move of which P holds is the least
pub first_least : (b : PlainBoard) (P : Ply → Type 0) (xs : List Ply) → ListsLawful b xs → (i : ℕ) (m : Ply) → i < length xs → m ≡ get_or xs i m → All (λ l. P l → ⊥) (take i xs)
    → (l : Ply) → IsLawful b l → P l → (l ≡ m) ⊎ IsPlyBefore b.game m l
first_least b P xs lists i m within is none l lawful holds = at ((lists.exact l).1 lawful)
  where
    at : Contains xs l → (l ≡ m) ⊎ IsPlyBefore b.game m l
    at (j, in_list, e) = elim (split3 i j) [
      | inl after ↦ inr (subst (IsPlyBefore b.game m) e (subst (λ x. IsPlyBefore b.game x (get_or xs j l)) (same_default xs i l m within (sym is)) (lists.ordered i j l after in_list)))
      | inr (inl same) ↦ inl (sym e ∙ ap (λ k. get_or xs k l) (sym same) ∙ same_default xs i l m within (sym is))
      | inr (inr before) ↦ absurd (All-get_or (λ x. P x → ⊥) (take i xs) j l (omega (arith, length-take {A = Ply})) none (subst P (sym (get_or-take i xs j l before ∙ e)) holds))
    ]

-- what holds of the whole list holds of each lawful move
pub each_lawful : (b : PlainBoard) (P : Ply → Type 0) (xs : List Ply) → ListsLawful b xs → (i : ℕ) → length xs ≤ i → All P (take i xs) → (m : Ply) → IsLawful b m → P m
each_lawful b P xs lists i all each m lawful = All-contains P xs m (subst (All P) (take_all i xs all) each) ((lists.exact m).1 lawful)

-- ---- those of which P holds

abbrev pub itself : Ply → Ply
itself m = m

-- of these moves, in order exactly those of which P holds
pub record PicksMoves (game : Game) (P : Ply → Type 0) (xs picked : List Ply) : Type 0 where
  pub ordered : AllPairs (IsPlyBefore game) picked
  pub exact : Picks (IsPlyBefore game) itself P xs picked

module _ (b : PlainBoard) (P : Ply → Type 0) (xs : List Ply) where
  module _ (lists : ListsLawful b xs) where
    module _ (picked : List Ply) (i : ℕ) (m : Ply) (within : i < length xs) (is : m ≡ get_or xs i m) (so_far : PicksMoves b.game P (take i xs) picked) where
      pub pick_one : P m → PicksMoves b.game P (take (i + 1) xs) (picked ++ m ∷ [])
      pick_one holds =
          let more = keep (IsPlyBefore b.game) itself P xs picked i m within is lists.ordered so_far.ordered so_far.exact holds (λ l same p. sym same) in
          record { ordered = more.0; exact = more.1 }

      pub pick_skip : (P m → ⊥) → PicksMoves b.game P (take (i + 1) xs) picked
      pick_skip not = record {
        ordered = so_far.ordered;
        exact = skip (IsPlyBefore b.game) itself P xs picked i m within is so_far.exact (λ l same p. not (subst P same p));
      }

    -- where P holds of lawful moves alone, these are all
    pub pick_all : (picked : List Ply) (i : ℕ) → length xs ≤ i → PicksMoves b.game P (take i xs) picked → ((m : Ply) → P m → IsLawful b m) → ListsMoves b.game P picked
    pick_all picked i all so_far lawful = record {
      ordered = so_far.ordered;
      exact = λ m. (λ c. ((whole m).0 c).1, λ p. (whole m).1 ((lists.exact m).1 (lawful m p), p));
    }
      where
        whole : Picks (IsPlyBefore b.game) itself P xs picked
        whole = subst (λ ms. Picks (IsPlyBefore b.game) itself P ms picked) (take_all i xs all) so_far.exact

-- ---- the move of a job

pub job_wins : (r : Root) (n job : ℕ) (m : Ply) → slice_get r.moves.items job ≡ Some m → WinsIn r n job → Wins r.goal r.board n m
job_wins r n job m at w = subst (Wins r.goal r.board n) (same_some w.0 m (sym w.1 ∙ at)) w.2
