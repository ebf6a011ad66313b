-- A walk read backwards: what attacks a square is what a unit of the same kind would take from there.
use Rattle.moves.proofs.Common.{◌≡◌, ℕ, ℤ, pos, negsuc, neg_ℤ, zero, suc, refl, sym, ap, subst, ◌∙◌, arith, true, Some, None, Option, IfSome, List, unsigned_abs, ints, same_Some, Side, White, Black, Kind, King, Man, Mode, Move, Capture, Both, Step, Atom, Wazir, Ferz, Term, IsAtomLeap, Denotes, terms_of, other_side, IsPlayed, Game, PlainBoard, IsPosition, MayStandOn, Place, IsOnBoard, square_number, unit_at, ahead_of, IsStep, Leads, Allows, AttacksFrom, once, again, Aims}
use Rattle.board.specs.declared.terms.Atom.TheVariants as atom

pub other_twice : (side : Side) → other_side (other_side side) ≡ side
other_twice White = refl
other_twice Black = refl

pub size-neg : (n : ℤ) → unsigned_abs (neg_ℤ n) ≡ unsigned_abs n
size-neg (pos zero) = refl
size-neg (pos (suc n)) = refl
size-neg (negsuc n) = refl

-- a step that the other side would make the other way
pub mirror : Step → Step
mirror s = record { dx = neg_ℤ s.dx; dy = s.dy; rider = s.rider; mode = s.mode }

ahead-other : (side : Side) (dy : ℤ) → ahead_of (other_side side) dy ≡ neg_ℤ (ahead_of side dy)
ahead-other White dy = refl
ahead-other Black (pos zero) = refl
ahead-other Black (pos (suc n)) = refl
ahead-other Black (negsuc n) = refl

step_back : (side : Side) (st : Step) (s t : Place) → IsStep side st s t → IsStep (other_side side) (mirror st) t s
unfolding mirror
step_back side st s t e = record {
  file = omega (arith, ints, e.file);
  rank = omega (arith, ints, e.rank, ahead-other side st.dy);
}

-- a walk with one step more at its end
pub Leads-then : (b : PlainBoard) (side : Side) (st : Step) (t u s : Place) → st.rider ≡ true → unit_at b u ≡ None → IsOnBoard b.game s → IsStep side st u s → Leads b side st t u → Leads b side st t s
Leads-then b side st t u s r e on a (once on' a') = again r on' a' e (once on a)
Leads-then b side st t u s r e on a (again r' on' a' e' l) = again r' on' a' e' (Leads-then b side st _ u s r e on a l)

pub Leads-back : (b : PlainBoard) (side : Side) (st : Step) (s t : Place) → IsOnBoard b.game s → Leads b side st s t → Leads b (other_side side) (mirror st) t s
unfolding mirror
Leads-back b side st s t on (once on' a) = once on (step_back side st s t a)
Leads-back b side st s t on (again {u = u} r on' a e l) =
    Leads-then b (other_side side) (mirror st) t u s r e on (step_back side st s u a) (Leads-back b side st u t on' l)

-- the terms that denote a step denote its mirror
atom_back : (a : Atom) (dx dy : ℤ) → IsAtomLeap a dx dy → IsAtomLeap a (neg_ℤ dx) dy
atom_back Wazir dx dy h = rw (sym (size-neg dx)) at h
atom_back Ferz dx dy h = rw (sym (size-neg dx)) at h
atom_back atom.Knight dx dy h = rw (sym (size-neg dx)) at h

pub Denotes-mirror : (terms : List Term) (s : Step) → Denotes terms s → Denotes terms (mirror s)
unfolding mirror
Denotes-mirror terms s (k, t, q, e, ts) = (k, t, q, e, record { leap = record { atom = atom_back t.atom s.dx s.dy ts.leap.atom; ahead = ts.leap.ahead }; rider = ts.rider; mode = ts.mode })

pub allows_capture : (mode : Mode) (side : Side) → (mode ≡ Move → ⊥) → Allows mode side (Some (record { side = other_side side; kind = King }))
allows_capture Move side h = absurd (h refl)
allows_capture Capture side h = refl
allows_capture Both side h = refl

pub captures_from : (mode : Mode) (side : Side) (u : Man) → Allows mode side (Some u) → mode ≡ Move → ⊥
captures_from Move side u h e = h
captures_from Capture side u h e = cc
captures_from Both side u h e = cc

-- two walks of an enemy, one after the other, are two of the side's own, the other way
pub both_back : (b : PlainBoard) (side : Side) (u : Man) (step : Step) (r s t : Place) → u.side ≡ other_side side → Denotes (terms_of u.kind) step → IsOnBoard b.game r → IsOnBoard b.game s → Leads b u.side step r s → Leads b u.side step s t
    → (x : Step) × (x.rider ≡ step.rider) × (x.mode ≡ step.mode) × Denotes (terms_of u.kind) x × Leads b side x s r × Leads b side x t s
unfolding mirror
both_back b side u step r s t owner denoted on on' first then =
    let turned : other_side u.side ≡ side = ap other_side owner ∙ other_twice side in (
      mirror step,
      refl,
      refl,
      Denotes-mirror (terms_of u.kind) step denoted,
      subst (λ x. Leads b x (mirror step) s r) turned (Leads-back b u.side step r s on first),
      subst (λ x. Leads b x (mirror step) t s) turned (Leads-back b u.side step s t on' then),
    )

-- what would take from a square on another would be taken from there
pub Aims-back : (b : PlainBoard) (side : Side) (kind : Kind) (s k : Place) → IsOnBoard b.game s → Aims b (record { side = side; kind = kind }) s k → Aims b (record { side = other_side side; kind = kind }) k s
unfolding mirror
Aims-back b side kind s k on a = record {
  step = mirror a.step;
  denoted = Denotes-mirror (terms_of kind) a.step a.denoted;
  captures = a.captures;
  leads = Leads-back b side a.step s k on a.leads;
}

-- ---- attacks, by what would take

pub stands_played : (g : Game) (n : ℕ) (o : Option Man) (u : Man) → IfSome o (MayStandOn g n) → o ≡ Some u → IsPlayed g u.kind
stands_played g n None u m e = cc
stands_played g n (Some v) u m e = subst (λ x. IsPlayed g x) (ap (λ (x : Man). x.kind) (same_Some v u e)) m.played

-- a unit of the side attacks a square on which it would take
pub attacks_on : (b : PlainBoard) → IsPosition b → (side : Side) (s t : Place) (u : Man) → IsOnBoard b.game s → unit_at b s ≡ Some u → u.side ≡ side → Aims b u s t → AttacksFrom b side s t
attacks_on b is side s t u on stands owner a = record {
  unit = u;
  on_board = on;
  stands = stands;
  owner = owner;
  reaches = record {
    step = a.step;
    played = stands_played b.game (square_number b.game s) (unit_at b s) u (is.squares (square_number b.game s)) stands;
    denoted = a.denoted;
    reaches = record {
      allows = subst (λ x. Allows a.step.mode x (Some (record { side = other_side side; kind = King }))) (sym owner) (allows_capture a.step.mode side a.captures);
      leads = a.leads;
    };
  };
}

-- what attacks a square would take there
pub attack_aims : (b : PlainBoard) (side : Side) (s t : Place) (a : AttacksFrom b side s t) → Aims b a.unit s t
attack_aims b side s t a = record { step = a.reaches.step; denoted = a.reaches.denoted; captures = captures_from a.reaches.step.mode a.unit.side _ a.reaches.reaches.allows; leads = a.reaches.reaches.leads }

-- an attack from another square, on another one or on another board, where the same unit stands and its step leads
pub carried : (b c : PlainBoard) (side : Side) (s t s' t' : Place) (a : AttacksFrom b side s t) → IsOnBoard c.game s' → IsPlayed c.game a.unit.kind → unit_at c s' ≡ Some a.unit → Leads c a.unit.side a.reaches.step s' t' → AttacksFrom c side s' t'
carried b c side s t s' t' a on played stands leads = record {
  unit = a.unit;
  on_board = on;
  stands = stands;
  owner = a.owner;
  reaches = record { step = a.reaches.step; played = played; denoted = a.reaches.denoted; reaches = record { allows = a.reaches.reaches.allows; leads = leads } };
}

module _ (b : PlainBoard) (t : Place) (me : Side) (on : IsOnBoard b.game t) where
  -- from the attacked square its own kind would take an attacker
  pub Aims-attacked : (s : Place) (a : AttacksFrom b (other_side me) s t) → Aims b (record { side = me; kind = a.unit.kind }) t s
  Aims-attacked s a =
      let turned : other_side a.unit.side ≡ me = ap other_side a.owner ∙ other_twice me in
      subst (λ x. Aims b (record { side = x; kind = a.unit.kind }) t s) turned (Aims-back b a.unit.side a.unit.kind s t a.on_board (attack_aims b (other_side me) s t a))

  -- and what it would take so attacks the square
  pub attacks_back : IsPosition b → (s : Place) (u : Man) → IsOnBoard b.game s → unit_at b s ≡ Some u → u.side ≡ other_side me → Aims b (record { side = me; kind = u.kind }) t s → AttacksFrom b (other_side me) s t
  attacks_back is s u there stands owner a =
      let man : record { side = other_side me; kind = u.kind } ≡ u = λ i. record { side = sym owner i; kind = u.kind } in
      attacks_on b is (other_side me) s t u there stands owner (subst (λ x. Aims b x s t) man (Aims-back b me u.kind t s on a))
