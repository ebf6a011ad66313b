-- What a unit sees, by ways and leaps, is what its denotation says.
use Rattle.moves.proofs.Common.{◌≡◌, ℕ, ◌≤◌, zero, suc, refl, sym, subst, ◌∙◌, arith, ◌↔◌, ◌⊎◌, inl, inr, Bool, true, false, ◌&&◌, not, leb, ℤ, pos, negsuc, neg_ℤ, [], ◌∷◌, list_all, unsigned_abs, ints, false≢true, not-true, and_parts, leb-true, AllPass-from_list_all, All-contains, Side, White, Black, Kind, King, Queen, Rook, Bishop, Knight, Pawn, Both, Step, Atom, Wazir, Ferz, Term, IsAtomLeap, IsTermStep, doubled, terms_of, Denotes, PlainBoard, Way, North, South, East, West, NorthEast, SouthWest, NorthWest, SouthEast, ahead_of, Leads, once, single_step, table_of, place_in, IsCell, Aims, IsLeapt, SomeWay, RidesBy, files_of, ranks_of, shift_in, table_of-exact, size-ahead}
use Rattle.board.specs.declared.terms.Atom.TheVariants as atom
use Rattle.moves.proofs.Riding.{Goes, cell-rides, Leads-rides, Rides-leads}

-- ---- the ways of an atom's leaps

one_of : (z : ℤ) → unsigned_abs z ≡ 1 → (z ≡ pos 1) ⊎ (z ≡ neg_ℤ (pos 1))
one_of (pos zero) e = absurd (omega (arith, e))
one_of (pos (suc zero)) e = inl refl
one_of (pos (suc (suc n))) e = absurd (omega (arith, e))
one_of (negsuc zero) e = inr refl
one_of (negsuc (suc n)) e = absurd (omega (arith, e))

pub zero_of : (z : ℤ) → unsigned_abs z ≡ 0 → z ≡ pos 0
zero_of z e = omega (arith, ints, e)

not_level : (n : ℕ) → ((n ≡ 1) × (n ≡ 0)) ⊎ ((n ≡ 0) × (n ≡ 1)) → ⊥
not_level n (inl (a, b)) = omega (arith, a, b)
not_level n (inr (a, b)) = omega (arith, a, b)

pub wazir_ways : (P : Way → Type 0) → (P North ⊎ (P South ⊎ (P East ⊎ P West))) ↔ SomeWay Wazir P
wazir_ways P = (
  λ w. elim w [
    | inl p ↦ record { way = North; leap = inr (refl, refl); holds = p }
    | inr (inl p) ↦ record { way = South; leap = inr (refl, refl); holds = p }
    | inr (inr (inl p)) ↦ record { way = East; leap = inl (refl, refl); holds = p }
    | inr (inr (inr p)) ↦ record { way = West; leap = inl (refl, refl); holds = p }
  ],
  λ w. line w.way w.leap w.holds,
)
  where
    line : (way : Way) → IsAtomLeap Wazir (files_of way) (ranks_of way) → P way → P North ⊎ (P South ⊎ (P East ⊎ P West))
    line North l p = inl p
    line South l p = inr (inl p)
    line East l p = inr (inr (inl p))
    line West l p = inr (inr (inr p))
    line NorthEast l p = absurd (not_level 1 l)
    line SouthWest l p = absurd (not_level 1 l)
    line NorthWest l p = absurd (not_level 1 l)
    line SouthEast l p = absurd (not_level 1 l)

each_one : (m n : ℕ) → ((m ≡ 1) × (n ≡ 1)) ⊎ ((m ≡ 1) × (n ≡ 1)) → (m ≡ 1) × (n ≡ 1)
each_one m n (inl w) = w
each_one m n (inr w) = w

pub ferz_ways : (P : Way → Type 0) → (P NorthEast ⊎ (P SouthWest ⊎ (P NorthWest ⊎ P SouthEast))) ↔ SomeWay Ferz P
ferz_ways P = (
  λ w. elim w [
    | inl p ↦ record { way = NorthEast; leap = inl (refl, refl); holds = p }
    | inr (inl p) ↦ record { way = SouthWest; leap = inl (refl, refl); holds = p }
    | inr (inr (inl p)) ↦ record { way = NorthWest; leap = inl (refl, refl); holds = p }
    | inr (inr (inr p)) ↦ record { way = SouthEast; leap = inl (refl, refl); holds = p }
  ],
  λ w. line w.way w.leap w.holds,
)
  where
    line : (way : Way) → IsAtomLeap Ferz (files_of way) (ranks_of way) → P way → P NorthEast ⊎ (P SouthWest ⊎ (P NorthWest ⊎ P SouthEast))
    line NorthEast l p = inl p
    line SouthWest l p = inr (inl p)
    line NorthWest l p = inr (inr (inl p))
    line SouthEast l p = inr (inr (inr p))
    line North l p = let w = each_one 0 1 l in cc w.0
    line South l p = let w = each_one 0 1 l in cc w.0
    line East l p = let w = each_one 1 0 l in cc w.1
    line West l p = let w = each_one 1 0 l in cc w.1

-- ---- a rider's steps and its ways

-- a side's leaps are another's
leap_ahead : (a : Atom) (side : Side) (dx dy : ℤ) → IsAtomLeap a dx dy → IsAtomLeap a dx (ahead_of side dy)
leap_ahead Wazir side dx dy h = rw (sym (size-ahead side dy)) at h
leap_ahead Ferz side dx dy h = rw (sym (size-ahead side dy)) at h
leap_ahead atom.Knight side dx dy h = rw (sym (size-ahead side dy)) at h

-- a leap goes a way
way_at : (a : Atom) → (a ≡ atom.Knight → ⊥) → (dx dy : ℤ) → IsAtomLeap a dx dy → (way : Way) × (dx ≡ files_of way) × (dy ≡ ranks_of way)
way_at Wazir other dx dy (inl (x, y)) = elim (one_of dx x) [ inl e ↦ (East, e, zero_of dy y) | inr e ↦ (West, e, zero_of dy y) ]
way_at Wazir other dx dy (inr (x, y)) = elim (one_of dy y) [ inl e ↦ (North, zero_of dx x, e) | inr e ↦ (South, zero_of dx x, e) ]
way_at Ferz other dx dy leap =
    let w = each_one (unsigned_abs dx) (unsigned_abs dy) leap in
    elim (one_of dx w.0) [
      | inl e ↦ elim (one_of dy w.1) [ inl f ↦ (NorthEast, e, f) | inr f ↦ (SouthEast, e, f) ]
      | inr e ↦ elim (one_of dy w.1) [ inl f ↦ (NorthWest, e, f) | inr f ↦ (SouthWest, e, f) ]
    ]
way_at atom.Knight other dx dy leap = absurd (other refl)

-- so does the step of a side
step_way : (a : Atom) → (a ≡ atom.Knight → ⊥) → (side : Side) (step : Step) → IsAtomLeap a step.dx step.dy → SomeWay a (λ way. Goes side way step)
step_way a other side step leap =
    let ahead = leap_ahead a side step.dx step.dy leap in
    let (way, e, f) = way_at a other step.dx (ahead_of side step.dy) ahead in
    record { way = way; leap = subst (λ x. IsAtomLeap a x (ranks_of way)) e (subst (IsAtomLeap a step.dx) f ahead); holds = record { files = e; ranks = f } }

ahead_twice : (side : Side) (dy : ℤ) → ahead_of side (ahead_of side dy) ≡ dy
ahead_twice White dy = refl
ahead_twice Black (pos zero) = refl
ahead_twice Black (pos (suc n)) = refl
ahead_twice Black (negsuc n) = refl

module _ (b : PlainBoard) (side : Side) (i j : ℕ) (c : IsCell b.game i) (a : Atom) where
  -- a way's step
  way_step : RidesBy b a i j → (step : Step) × IsTermStep (doubled a) step × Leads b side step (place_in i) (place_in j)
  way_step r =
      let step : Step = record { dx = files_of r.way; dy = ahead_of side (ranks_of r.way); rider = true; mode = Both } in (
        step,
        record { leap = record { atom = leap_ahead a side _ _ r.leap; ahead = λ e. absurd (false≢true e) }; rider = refl; mode = refl },
        Leads-rides b side r.way step (record { files = refl; ranks = ahead_twice side (ranks_of r.way) }) refl i j c r.holds,
      )

  along_way : (a ≡ atom.Knight → ⊥) → (step : Step) → IsCell b.game j → IsTermStep (doubled a) step → Leads b side step (place_in i) (place_in j) → RidesBy b a i j
  along_way other step d s leads = let w = step_way a other side step s.leap.atom in record { way = w.way; leap = w.leap; holds = Rides-leads b side w.way step w.holds i j c d leads }

-- ---- the terms of a rider

one_term : (t : Term) (step : Step) → Denotes (t ∷ []) step ↔ IsTermStep t step
one_term t step = (only, λ s. (0, t, omega arith, refl, s))
  where
    only : Denotes (t ∷ []) step → IsTermStep t step
    only (zero, u, h, e, ts) = subst (λ x. IsTermStep x step) (sym e) ts
    only (suc k, u, h, e, ts) = absurd (omega (arith, h))

-- a queen's steps are a rook's and a bishop's
pub queen_step : (step : Step) → Denotes (terms_of Queen) step ↔ (Denotes (terms_of Rook) step ⊎ Denotes (terms_of Bishop) step)
queen_step step = (
  queen,
  λ w. elim w [
    | inl d ↦ (0, doubled Wazir, omega arith, refl, (one_term (doubled Wazir) step).0 d)
    | inr d ↦ (1, doubled Ferz, omega arith, refl, (one_term (doubled Ferz) step).0 d)
  ],
)
  where
    queen : Denotes (terms_of Queen) step → Denotes (terms_of Rook) step ⊎ Denotes (terms_of Bishop) step
    queen (zero, t, h, e, ts) = inl ((one_term (doubled Wazir) step).1 (subst (λ x. IsTermStep x step) (sym e) ts))
    queen (suc zero, t, h, e, ts) = inr ((one_term (doubled Ferz) step).1 (subst (λ x. IsTermStep x step) (sym e) ts))
    queen (suc (suc k), t, h, e, ts) = absurd (omega (arith, h))

-- ---- what a kind's table says of its steps

pub by_table : (p : Step → Bool) (kind : Kind) → list_all p (table_of kind) ≡ true → (step : Step) → Denotes (terms_of kind) step → p step ≡ true
by_table p kind all step denoted = All-contains (λ x. p x ≡ true) (table_of kind) step (AllPass-from_list_all p (table_of kind) all) ((table_of-exact kind step).1 denoted)

abbrev is_leap : Step → Bool
is_leap s = not s.rider && leb (unsigned_abs s.dx) 2

abbrev pub IsLeaper : Kind → Type 0
IsLeaper kind = list_all is_leap (table_of kind) ≡ true

leaps : (kind : Kind) → IsLeaper kind → (step : Step) → Denotes (terms_of kind) step → (step.rider ≡ false) × (unsigned_abs step.dx ≤ 2)
leaps kind all step denoted = let w = and_parts (not step.rider) _ (by_table is_leap kind all step denoted) in (not-true step.rider w.0, leb-true _ _ w.1)

-- ---- what the kinds see

abbrev pub Sees : PlainBoard → Side → ℕ → ℕ → Kind → Type 0
Sees b side i j kind = IsCell b.game j × Aims b (record { side = side; kind = kind }) (place_in i) (place_in j)

module _ (b : PlainBoard) (side : Side) (i j : ℕ) (c : IsCell b.game i) where
  by_line : (a : Atom) (q : Kind) → (a ≡ atom.Knight → ⊥) → ((step : Step) → Denotes (terms_of q) step ↔ IsTermStep (doubled a) step) → RidesBy b a i j ↔ Sees b side i j q
  by_line a q other term = (
    λ r. let (step, s, leads) = way_step b side i j c a r in (cell-rides b r.way i j r.holds, record { step = step; denoted = (term step).1 s; captures = λ move. cc (sym s.mode ∙ move); leads = leads }),
    λ (d, w). along_way b side i j c a other w.step d ((term w.step).0 w.denoted) w.leads,
  )

  pub Sees-rook : RidesBy b Wazir i j ↔ Sees b side i j Rook
  Sees-rook = by_line Wazir Rook (λ e. cc) (one_term (doubled Wazir))

  pub Sees-bishop : RidesBy b Ferz i j ↔ Sees b side i j Bishop
  Sees-bishop = by_line Ferz Bishop (λ e. cc) (one_term (doubled Ferz))

  as_kind : (k q : Kind) (w : Sees b side i j k) → Denotes (terms_of q) w.1.step → Sees b side i j q
  as_kind k q (d, w) denoted = (d, record { step = w.step; denoted = denoted; captures = w.captures; leads = w.leads })

  pub Sees-queen : (RidesBy b Wazir i j ⊎ RidesBy b Ferz i j) ↔ Sees b side i j Queen
  Sees-queen = (
    λ w. elim w [
      | inl r ↦ let s = Sees-rook.0 r in as_kind Rook Queen s ((queen_step s.1.step).1 (inl s.1.denoted))
      | inr r ↦ let s = Sees-bishop.0 r in as_kind Bishop Queen s ((queen_step s.1.step).1 (inr s.1.denoted))
    ],
    λ s. elim ((queen_step s.1.step).0 s.1.denoted) [ inl d ↦ inl (Sees-rook.1 (as_kind Queen Rook s d)) | inr d ↦ inr (Sees-bishop.1 (as_kind Queen Bishop s d)) ],
  )

  pub Sees-leaper : (kind : Kind) → IsLeaper kind → IsLeapt b.game side kind i j ↔ Sees b side i j kind
  Sees-leaper kind all = (
    λ w.
        let s = leaps kind all w.step w.denoted in
        (w.cell, record { step = w.step; denoted = w.denoted; captures = w.captures; leads = once w.cell.on_board (shift_in b.game w.step.dx (ahead_of side w.step.dy) i j c s.1 w.away w.cell) }),
    λ (d, a).
        let s = leaps kind all a.step a.denoted in
        let e = single_step b side a.step (place_in i) (place_in j) s.0 a.leads in
        let low = c.above in
        let high = d.above in
        record { cell = d; step = a.step; denoted = a.denoted; captures = a.captures; away = omega (arith, ints, e.file, e.rank, low, high) },
  )

-- ---- a step's way, where it is a rider's

-- a way along ranks and files is a queen's or a rook's, one along diagonals a queen's or a bishop's
abbrev pub GoesAs : Kind → Way → Type 0
GoesAs kind way = (IsAtomLeap Wazir (files_of way) (ranks_of way) × ((kind ≡ Queen) ⊎ (kind ≡ Rook))) ⊎ (IsAtomLeap Ferz (files_of way) (ranks_of way) × ((kind ≡ Queen) ⊎ (kind ≡ Bishop)))

-- the way that a rider of a class goes
pub record RidesAs (side : Side) (kind : Kind) (step : Step) : Type 0 where
  pub way : Way
  pub goes : Goes side way step
  pub by : GoesAs kind way

ride : (a : Atom) → (a ≡ atom.Knight → ⊥) → (side : Side) (q : Kind) (step : Step) → ((way : Way) → IsAtomLeap a (files_of way) (ranks_of way) → GoesAs q way) → Denotes (doubled a ∷ []) step → RidesAs side q step
ride a other side q step by d = let w = step_way a other side step ((one_term (doubled a) step).0 d).leap.atom in record { way = w.way; goes = w.holds; by = by w.way w.leap }

pub king_single : (step : Step) → Denotes (terms_of King) step → step.rider ≡ false
king_single step d = (leaps King refl step d).0

pub rides_as : (side : Side) (kind : Kind) (step : Step) → Denotes (terms_of kind) step → (step.rider ≡ false) ⊎ RidesAs side kind step
rides_as side King step d = inl (king_single step d)
rides_as side Queen step d = inr (elim ((queen_step step).0 d) [ inl s ↦ ride Wazir (λ e. cc) side Queen step (λ way l. inl (l, inl refl)) s | inr s ↦ ride Ferz (λ e. cc) side Queen step (λ way l. inr (l, inl refl)) s ])
rides_as side Rook step d = inr (ride Wazir (λ e. cc) side Rook step (λ way l. inl (l, inr refl)) d)
rides_as side Bishop step d = inr (ride Ferz (λ e. cc) side Bishop step (λ way l. inr (l, inr refl)) d)
rides_as side Knight step d = inl (leaps Knight refl step d).0
rides_as side Pawn step d = inl (leaps Pawn refl step d).0

pub rider_way : (side : Side) (kind : Kind) (step : Step) → Denotes (terms_of kind) step → step.rider ≡ true → RidesAs side kind step
rider_way side kind step d rides = elim (rides_as side kind step d) [ inl single ↦ absurd (false≢true (sym single ∙ rides)) | inr way ↦ way ]
