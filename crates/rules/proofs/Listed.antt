-- Loops over the steps of a list, and over the squares of a board.
use Rattle.std.proofs.Common.{◌≡◌, ℕ, ◌+◌, ◌*◌, ◌<◌, ◌⊎◌, inl, inr, refl, subst, arith, List, length, get_or, All, Option}
use Rattle.rules.proofs.Common.{unsigned_abs, Contains-get_or, All-contains, Game, LosAlamos, Gardner, Man, Step, width_of, squares_of, IsPlayed, terms_of, ListsSteps, PlainBoard, Place, Ply, IsOnBoard, square_number, ReachesBy, Reaches, IsLawful, ListsLawful}
use Rattle.board.proofs.Leaps.{goes_somewhere}
use Rattle.rules.proofs.Rides.{same_place}

-- ---- the steps of a unit

module _ (b : PlainBoard) (u : Man) (s t : Place) (target : Option Man) (steps : List Step) (listed : ListsSteps (terms_of u.kind) steps) where
  pub goes_at : (i : ℕ) (d : Step) → i < length steps → 0 < unsigned_abs (get_or steps i d).dx + unsigned_abs (get_or steps i d).dy
  goes_at i d h = goes_somewhere (terms_of u.kind) _ ((listed.exact _).0 (Contains-get_or steps i d h))

  pub reached_at : (i : ℕ) (d : Step) → i < length steps → IsPlayed b.game u.kind → ReachesBy b u (get_or steps i d) s t target → Reaches b u s t target
  reached_at i d h played r = record { step = get_or steps i d; played = played; denoted = (listed.exact _).0 (Contains-get_or steps i d h); reaches = r }

  pub not_reached : All (λ x. ReachesBy b u x s t target → ⊥) steps → Reaches b u s t target → ⊥
  not_reached none r = All-contains (λ x. ReachesBy b u x s t target → ⊥) steps r.step none ((listed.exact r.step).1 r.denoted) r.reaches

-- ---- the squares of a board

same_at : (w f r f' r' : ℕ) → (w ≡ 5) ⊎ (w ≡ 6) → f < w → f' < w → f + w * r ≡ f' + w * r' → (f ≡ f') × (r ≡ r')
same_at w f r f' r' (inl e) a b h = let k : f + 5 * r ≡ f' + 5 * r' = subst (λ x. f + x * r ≡ f' + x * r') e h in (omega arith, omega arith)
same_at w f r f' r' (inr e) a b h = let k : f + 6 * r ≡ f' + 6 * r' = subst (λ x. f + x * r ≡ f' + x * r') e h in (omega arith, omega arith)

width_cases : (g : Game) → (width_of g ≡ 5) ⊎ (width_of g ≡ 6)
width_cases LosAlamos = inr refl
width_cases Gardner = inl refl

-- squares of one number are one square
pub same_number : (g : Game) (s t : Place) → IsOnBoard g s → IsOnBoard g t → square_number g s ≡ square_number g t → s ≡ t
same_number g s t a b e =
    let p = same_at (width_of g) s.file s.rank t.file t.rank (width_cases g) a.file b.file e in
    same_place s t p.0 p.1

pub number_within : (g : Game) (s : Place) → IsOnBoard g s → square_number g s < squares_of g
number_within LosAlamos s a = omega (arith, a.file, a.rank)
number_within Gardner s a = omega (arith, a.file, a.rank)

module _ (g : Game) (P : Place → Type 0) where
  -- the turn of a loop over the squares at which nothing is found
  pub none_more : (n : ℕ) (t : Place) → IsOnBoard g t → square_number g t ≡ n → ((s : Place) → IsOnBoard g s → square_number g s < n → P s → ⊥) → (P t → ⊥) → (s : Place) → IsOnBoard g s → square_number g s < n + 1 → P s → ⊥
  none_more n t on e below here s a lt p = elim (split (square_number g s) n lt) [
    | inl less ↦ below s a less p
    | inr same ↦ here (subst P (same_number g s t a on (omega arith)) p)
  ]
    where
      split : (k m : ℕ) → k < m + 1 → (k < m) ⊎ (k ≡ m)
      split k m h = grind arith

-- ---- a list of lawful moves

-- each of its moves is lawful
pub lawful_at : (b : PlainBoard) (moves : List Ply) → ListsLawful b moves → (i : ℕ) (d : Ply) → i < length moves → IsLawful b (get_or moves i d)
lawful_at b moves lists i d h = (lists.exact _).0 (Contains-get_or moves i d h)
