-- A step's repetition: where it can lead, and that it comes to the edge.
use Rattle.std.proofs.lemmas.Bool.Decides.{nat_tests}
use Rattle.std.proofs.Common.{Option, Some, is_some, Bool, false, ◌&&◌, eqb, ap, ◌≡◌, ℕ, ◌+◌, ◌-◌, ◌<◌, ℤ, pos, negsuc, ◌+ℤ◌, ◌⊎◌, inl, inr, true, refl, sym, subst, arith, zero, suc, None}
use Rattle.rules.proofs.Common.{unsigned_abs, ints, Game, LosAlamos, Gardner, Side, White, Black, Step, width_of, PlainBoard, Place, IsOnBoard, unit_at, ahead_of, IsStep, Leads, once, again}

pub same_place : (s t : Place) → s.file ≡ t.file → s.rank ≡ t.rank → s ≡ t
same_place s t a b = λ i. record { file = a i; rank = b i }

-- a step leads to one square only
pub one_target : (side : Side) (step : Step) (s t u : Place) → IsStep side step s t → IsStep side step s u → t ≡ u
one_target side step s t u a b = same_place t u (omega (arith, ints, a.file, b.file)) (omega (arith, ints, a.rank, b.rank))

-- where no step leads, nothing is reached
pub Leads-nowhere : (b : PlainBoard) (side : Side) (step : Step) (s t : Place) → ((u : Place) → IsOnBoard b.game u → IsStep side step s u → ⊥) → Leads b side step s t → ⊥
Leads-nowhere b side step s t none (once on a) = none t on a
Leads-nowhere b side step s t none (again {u = u} r on a e l) = none u on a

-- what is reached by way of the next square u is u itself, or is reached from u
pub Leads-through : (b : PlainBoard) (side : Side) (step : Step) (s u t : Place) → IsOnBoard b.game u → IsStep side step s u → Leads b side step s t → (u ≡ t) ⊎ ((step.rider ≡ true) × (unit_at b u ≡ None) × Leads b side step u t)
Leads-through b side step s u t on a (once on' a') = inl (one_target side step s u t a a')
Leads-through b side step s u t on a (again {u = v} r on' a' e l) =
    let same : v ≡ u = one_target side step s v u a' a in
    inr (r, rw same at e, subst (λ x. Leads b side step x t) same l)

-- how far a number is from the edge that it goes to
room_along : ℤ → ℕ → ℕ → ℕ
room_along (pos zero) n other = other
room_along (pos (suc k)) n other = 6 - n
room_along (negsuc k) n other = n

-- how many steps there is room for, at most
pub room_of : Side → Step → Place → ℕ
room_of side step s = room_along step.dx s.file (room_along (ahead_of side step.dy) s.rank 0)

room_falls : (dx dy : ℤ) (f r f' r' : ℕ) → f < 6 → r < 6 → f' < 6 → r' < 6 → pos f' ≡ pos f +ℤ dx → pos r' ≡ pos r +ℤ dy → 0 < unsigned_abs dx + unsigned_abs dy → room_along dx f' (room_along dy r' 0) < room_along dx f (room_along dy r 0)
unfolding room_along
room_falls (pos (suc k)) dy f r f' r' a b c d e g h = omega (arith, ints, e)
room_falls (negsuc k) dy f r f' r' a b c d e g h = omega (arith, ints, e)
room_falls (pos zero) (pos zero) f r f' r' a b c d e g h = absurd (omega arith)
room_falls (pos zero) (pos (suc k)) f r f' r' a b c d e g h = omega (arith, ints, g)
room_falls (pos zero) (negsuc k) f r f' r' a b c d e g h = omega (arith, ints, g)

pub size-ahead : (side : Side) (dy : ℤ) → unsigned_abs (ahead_of side dy) ≡ unsigned_abs dy
size-ahead White dy = refl
size-ahead Black (pos zero) = refl
size-ahead Black (pos (suc n)) = refl
size-ahead Black (negsuc n) = refl

pub within_six : (g : Game) (n : ℕ) → n < width_of g → n < 6
within_six LosAlamos n h = h
within_six Gardner n h = omega arith

-- a step that goes somewhere leaves less room
pub room_of-step : (g : Game) (side : Side) (step : Step) (s t : Place) → IsOnBoard g s → IsOnBoard g t → IsStep side step s t → 0 < unsigned_abs step.dx + unsigned_abs step.dy → room_of side step t < room_of side step s
unfolding room_of
room_of-step g side step s t a b e h =
    room_falls step.dx (ahead_of side step.dy) s.file s.rank t.file t.rank (within_six g _ a.file) (within_six g _ a.rank) (within_six g _ b.file) (within_six g _ b.rank) e.file e.rank (rw (size-ahead side step.dy) h)

pub place_eq : (s t : Place) (r : Bool) → r ≡ (eqb s.file t.file && eqb s.rank t.rank) → (r ≡ true → s ≡ t) × (s ≡ t → r ≡ true)
place_eq s t r e = (
  λ h. same_place s t (grind (arith, nat_tests)) (grind (arith, nat_tests)),
  λ h. let f : s.file ≡ t.file = ap (λ (x : Place). x.file) h in let g : s.rank ≡ t.rank = ap (λ (x : Place). x.rank) h in grind (arith, nat_tests),
)

-- what one turn of the walk decides, from the next square u
module _ (b : PlainBoard) (side : Side) (step : Step) (s u t : Place) (on : IsOnBoard b.game u) (a : IsStep side step s u) where
  pub Leads-here : u ≡ t → Leads b side step s t
  Leads-here e = subst (λ x. Leads b side step s x) e (once on a)

  pub Leads-single : (u ≡ t → ⊥) → step.rider ≡ false → Leads b side step s t → ⊥
  Leads-single other single l = elim (Leads-through b side step s u t on a l) [ inl e ↦ other e | inr w ↦ cc ]

  pub Leads-blocked : (u ≡ t → ⊥) → (unit_at b u ≡ None → ⊥) → Leads b side step s t → ⊥
  Leads-blocked other taken l = elim (Leads-through b side step s u t on a l) [ inl e ↦ other e | inr w ↦ taken w.1 ]

  pub Leads-onward : (u ≡ t → ⊥) → Leads b side step s t → Leads b side step u t
  Leads-onward other l = elim (Leads-through b side step s u t on a l) [ inl e ↦ absurd (other e) | inr w ↦ w.2 ]

-- what `is_some` says of a square's unit
pub empty_from : {X : Type 0} (o p : Option X) (r : Bool) → o ≡ p → r ≡ is_some o → r ≡ false → p ≡ None
empty_from None p r e f g = sym e
empty_from (Some x) p r e f g = cc

pub taken_from : {X : Type 0} (o p : Option X) (r : Bool) → o ≡ p → r ≡ is_some o → r ≡ true → p ≡ None → ⊥
taken_from None p r e f g h = cc
taken_from (Some x) p r e f g h = cc
