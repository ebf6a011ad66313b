-- A rider's way: a ray up to the first unit on it, and the same as its denotation's.
use Rattle.moves.proofs.Common.{◌≡◌, ℕ, ◌<◌, ◌≤◌, refl, sym, ap, subst, ◌∙◌, arith, ◌↔◌, Bool, true, false, None, unsigned_abs, ints, Game, Side, Step, PlainBoard, Way, North, South, East, West, NorthEast, SouthWest, NorthWest, SouthEast, Place, IsOnBoard, unit_at, ahead_of, IsShift, IsStep, Leads, once as lead, again as lead_on, cell_of, place_in, IsCell, files_of, ranks_of, IsNext, IsOnRay, Rides, rises, shift_in, IsCell-cell_of, place_in-cell_of, cell_of-place_in, cell_small, Has-and, Has, bit_and, ◌⊎◌, inl, inr, cases_order}
use Rattle.cells.specs.Ways.IsOnRay.{next, beyond}
use Rattle.cells.specs.Ways.Rides.{once, again}
use Rattle.moves.proofs.Shown.{none_from}

-- the cell j lies on the way before k
abbrev pub IsSooner : Bool → ℕ → ℕ → Type 0
IsSooner true j k = j < k
IsSooner false j k = k < j

-- a way leads to what lies later on it, and by two files at most
is_way : (way : Way) → ((i j : ℕ) → IsNext way i j → IsSooner (rises way) i j) × (unsigned_abs (files_of way) ≤ 2)
is_way North = ((λ i j e. omega (arith, ints, e)), omega arith)
is_way South = ((λ i j e. omega (arith, ints, e)), omega arith)
is_way East = ((λ i j e. omega (arith, ints, e)), omega arith)
is_way West = ((λ i j e. omega (arith, ints, e)), omega arith)
is_way NorthEast = ((λ i j e. omega (arith, ints, e)), omega arith)
is_way SouthWest = ((λ i j e. omega (arith, ints, e)), omega arith)
is_way NorthWest = ((λ i j e. omega (arith, ints, e)), omega arith)
is_way SouthEast = ((λ i j e. omega (arith, ints, e)), omega arith)

sooner-trans : (r : Bool) (i j k : ℕ) → IsSooner r i j → IsSooner r j k → IsSooner r i k
sooner-trans true i j k a b = omega (arith, a, b)
sooner-trans false i j k a b = omega (arith, a, b)

never-sooner : (r : Bool) (i : ℕ) → IsSooner r i i → ⊥
never-sooner true i h = omega (arith, h)
never-sooner false i h = omega (arith, h)

pub sooner-cases : (r : Bool) (i j : ℕ) → (i ≡ j) ⊎ (IsSooner r i j ⊎ IsSooner r j i)
sooner-cases true i j = cases_order i j
sooner-cases false i j = elim (cases_order i j) [ inl same ↦ inl same | inr (inl less) ↦ inr (inr less) | inr (inr more) ↦ inr (inl more) ]

one-next : (way : Way) (i j k : ℕ) → IsNext way i j → IsNext way i k → j ≡ k
one-next way i j k a b = omega (arith, ints, a, b)

pub sooner-ray : (g : Game) (way : Way) (i j : ℕ) → IsOnRay g way i j → IsSooner (rises way) i j
sooner-ray g way i j (next a c) = (is_way way).0 i j a
sooner-ray g way i j (beyond {k = k} a c r) = sooner-trans (rises way) i k j ((is_way way).0 i k a) (sooner-ray g way k j r)

pub cell-ray : (g : Game) (way : Way) (i j : ℕ) → IsOnRay g way i j → IsCell g j
cell-ray g way i j (next a c) = c
cell-ray g way i j (beyond {k = k} a c r) = cell-ray g way k j r

pub ray-beyond : (g : Game) (way : Way) (i k j : ℕ) → IsOnRay g way i k → IsOnRay g way k j → IsOnRay g way i j
ray-beyond g way i k j (next a c) r = beyond a c r
ray-beyond g way i k j (beyond {k = l} a c s) r = beyond a c (ray-beyond g way l k j s r)

-- ---- a rider comes to the cells of the ray with no unit before them

-- all cells of the ray before j are empty
abbrev pub IsClear : PlainBoard → Way → ℕ → ℕ → Type 0
IsClear b way i j = (k : ℕ) → IsOnRay b.game way i k → IsSooner (rises way) k j → unit_at b (place_in k) ≡ None

pub rides-ray : (b : PlainBoard) (way : Way) (i j : ℕ) → Rides b way i j → IsOnRay b.game way i j
rides-ray b way i j (once a c) = next a c
rides-ray b way i j (again {k = k} a c e r) = beyond a c (rides-ray b way k j r)

rides-clear : (b : PlainBoard) (way : Way) (i j : ℕ) → Rides b way i j → IsClear b way i j
rides-clear b way i j (once a c) k (next a' c') s = absurd (never-sooner (rises way) j (subst (λ n. IsSooner (rises way) n j) (one-next way i k j a' a) s))
rides-clear b way i j (once a c) k (beyond {k = l} a' c' r) s =
    let sooner = sooner-ray b.game way l k r in
    absurd (never-sooner (rises way) j (sooner-trans (rises way) j k j (subst (λ n. IsSooner (rises way) n k) (one-next way i l j a' a) sooner) s))
rides-clear b way i j (again {k = l} a c e r) k (next a' c') s = subst (λ n. unit_at b (place_in n) ≡ None) (one-next way i l k a a') e
rides-clear b way i j (again {k = l} a c e r) k (beyond {k = m} a' c' r') s =
    rides-clear b way l j r k (subst (λ n. IsOnRay b.game way n k) (one-next way i m l a' a) r') s

ride : (b : PlainBoard) (way : Way) (i j : ℕ) → IsOnRay b.game way i j → IsClear b way i j → Rides b way i j
ride b way i j (next a c) clear = once a c
ride b way i j (beyond {k = k} a c r) clear =
    again a c (clear k (next a c) (sooner-ray b.game way k j r)) (ride b way k j r (λ l on s. clear l (beyond a c on) s))

pub Rides-clear : (b : PlainBoard) (way : Way) (i j : ℕ) → Rides b way i j ↔ (IsOnRay b.game way i j × IsClear b way i j)
Rides-clear b way i j = (λ r. (rides-ray b way i j r, rides-clear b way i j r), λ w. ride b way i j w.0 w.1)

pub cell-rides : (b : PlainBoard) (way : Way) (i j : ℕ) → Rides b way i j → IsCell b.game j
cell-rides b way i j r = cell-ray b.game way i j (rides-ray b way i j r)

-- ---- a step of a side goes a way

pub record Goes (side : Side) (way : Way) (step : Step) : Type 0 where
  pub files : step.dx ≡ files_of way
  pub ranks : ahead_of side step.dy ≡ ranks_of way

module _ (b : PlainBoard) (side : Side) (way : Way) (step : Step) (goes : Goes side way step) where
  step-next : (i j : ℕ) → IsCell b.game i → IsCell b.game j → IsNext way i j → IsStep side step (place_in i) (place_in j)
  step-next i j c d a =
      let s = shift_in b.game (files_of way) (ranks_of way) i j c (is_way way).1 a d in
      subst (λ x. IsShift x (ahead_of side step.dy) (place_in i) (place_in j)) (sym goes.files) (subst (λ y. IsShift (files_of way) y (place_in i) (place_in j)) (sym goes.ranks) s)

  next-step : (i : ℕ) (t : Place) → IsCell b.game i → IsOnBoard b.game t → IsStep side step (place_in i) t → IsNext way i (cell_of t)
  next-step i t c on e =
      let f = goes.files in
      let r = goes.ranks in
      let a = c.above in
      omega (arith, ints, e.file, e.rank, f, r, a)

  module _ (rider : step.rider ≡ true) where
    pub Leads-rides : (i j : ℕ) → IsCell b.game i → Rides b way i j → Leads b side step (place_in i) (place_in j)
    Leads-rides i j c (once a d) = lead d.on_board (step-next i j c d a)
    Leads-rides i j c (again {k = k} a d e r) = lead_on rider d.on_board (step-next i k c d a) e (Leads-rides k j d r)

  leads-rides : (i : ℕ) (s t : Place) → place_in i ≡ s → IsCell b.game i → Leads b side step s t → Rides b way i (cell_of t)
  leads-rides i s t e c (lead on a) = once (next-step i t c on (subst (λ x. IsStep side step x t) (sym e) a)) (IsCell-cell_of b.game t on)
  leads-rides i s t e c (lead_on {u = u} r on a empty l) =
      let same = place_in-cell_of b.game u on in
      again (next-step i u c on (subst (λ x. IsStep side step x u) (sym e) a)) (IsCell-cell_of b.game u on) (ap (unit_at b) same ∙ empty)
      (leads-rides (cell_of u) u t same (IsCell-cell_of b.game u on) l)

  pub Rides-leads : (i j : ℕ) → IsCell b.game i → IsCell b.game j → Leads b side step (place_in i) (place_in j) → Rides b way i j
  Rides-leads i j c d l = subst (Rides b way i) (cell_of-place_in b.game j d) (leads-rides i (place_in i) (place_in j) refl c l)

-- ---- a ray cut at the first unit

module _ (b : PlainBoard) (way : Way) (i : ℕ) (ray taken mask : ℕ) (on : (j : ℕ) → Has ray j ↔ IsOnRay b.game way i j) (units : (j : ℕ) → Has taken j ↔ (IsCell b.game j × (unit_at b (place_in j) ≡ None → ⊥))) where
  -- where the mask ends with the first unit on the ray, it leaves the rider's cells
  cut : ((j : ℕ) → IsCell b.game j → Has mask j ↔ ((k : ℕ) → IsSooner (rises way) k j → Has (bit_and ray taken) k → ⊥)) → (j : ℕ) → Has (bit_and ray mask) j ↔ Rides b way i j
  cut ends j = (
    λ h.
        let (r, m) = (Has-and ray mask j).0 h in
        let on_j = (on j).0 r in
        let c = cell-ray b.game way i j on_j in
        (Rides-clear b way i j).1 (
          on_j,
          λ k on_k sooner. none_from (unit_at b (place_in k)) (λ some. (ends j c).0 m k sooner ((Has-and ray taken k).1 ((on k).1 on_k, (units k).1 (cell-ray b.game way i k on_k, some)))),
        ),
    λ r.
        let (on_j, clear) = (Rides-clear b way i j).0 r in
        let c = cell-ray b.game way i j on_j in
        (Has-and ray mask j).1 (
          (on j).1 on_j,
          (ends j c).1 (λ k sooner h. let (rk, t) = (Has-and ray taken k).0 h in ((units k).0 t).1 (clear k ((on k).0 rk) sooner)),
        ),
  )

  pub cut-up : rises way ≡ true → ((j : ℕ) → j < 63 → Has mask j ↔ ((k : ℕ) → k < j → Has (bit_and ray taken) k → ⊥)) → (j : ℕ) → Has (bit_and ray mask) j ↔ Rides b way i j
  cut-up up ends = cut (λ j c. subst (λ r. Has mask j ↔ ((k : ℕ) → IsSooner r k j → Has (bit_and ray taken) k → ⊥)) (sym up) (ends j (cell_small b.game j c)))

  pub cut-down : rises way ≡ false → ((j : ℕ) → 0 < j → j < 64 → Has mask j ↔ ((k : ℕ) → j < k → Has (bit_and ray taken) k → ⊥)) → (j : ℕ) → Has (bit_and ray mask) j ↔ Rides b way i j
  cut-down down ends = cut (λ j c. let s = cell_small b.game j c in let a = c.above in subst (λ r. Has mask j ↔ ((k : ℕ) → IsSooner r k j → Has (bit_and ray taken) k → ⊥)) (sym down) (ends j (omega (arith, a)) (omega (arith, s))))

pub ray-of : (b : PlainBoard) (way : Way) (i ray : ℕ) (g : Game) → g ≡ b.game → ((j : ℕ) → Has ray j ↔ IsOnRay g way i j) → (j : ℕ) → Has ray j ↔ IsOnRay b.game way i j
ray-of b way i ray g e h = subst (λ x. (j : ℕ) → Has ray j ↔ IsOnRay x way i j) e h
