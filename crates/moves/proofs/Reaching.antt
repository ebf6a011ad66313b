-- What a unit reaches is what it sees, but for its own units, and a pawn's step.
use Rattle.moves.proofs.Common.{◌≡◌, ℕ, ◌^◌, ◌<◌, ◌≤◌, w64, zero, suc, refl, sym, ap, subst, ◌∙◌, arith, ◌↔◌, ◌⊎◌, inl, inr, Bool, true, false, ℤ, pos, ◌<ℤ◌, Option, Some, None, bit_not, unsigned_abs, bit_and, bit_or, ints, false≢true, Side, White, Black, Kind, King, Queen, Rook, Bishop, Knight, Pawn, Man, Mode, Move, Capture, Both, Step, Wazir, Term, IsAtomLeap, terms_of, Denotes, other_side, IsPlayed, PlainBoard, is_of_side, unit_at, ahead_of, IsShift, IsStep, Allows, once, place_in, IsAway, IsCell, Aims, Has, IsTarget, IsNext, ahead_way, shift_in, Has-and, Has-or, Has-minus, next_of, next-is, is-next, single_step as single, own_or_other}
use Rattle.moves.proofs.Guarding.{own_unit_side, is_own}
use Rattle.moves.proofs.Seeing.{zero_of, by_table}

-- ---- where a step may end

foe-own : (s t : Side) (k : Kind) → (is_of_side s (Some (record { side = t; kind = k })) ≡ true → ⊥) → t ≡ other_side s
foe-own White White k h = absurd (h refl)
foe-own White Black k h = refl
foe-own Black White k h = refl
foe-own Black Black k h = absurd (h refl)

pub Allows-both : (side : Side) (o : Option Man) → Allows Both side o ↔ (is_of_side side o ≡ true → ⊥)
Allows-both side None = (λ _ h. false≢true h, λ _. tt)
Allows-both side (Some u) = (λ e own. own_or_other side (sym (own_unit_side side u own) ∙ e), λ h. foe-own side u.side u.kind h)

pub Allows-capture : (side : Side) (o : Option Man) → Allows Capture side o ↔ (is_of_side (other_side side) o ≡ true)
Allows-capture side None = (λ h. absurd h, λ h. absurd (false≢true h))
Allows-capture side (Some u) = (λ e. is_own (other_side side) u e, λ h. own_unit_side (other_side side) u h)

pub Allows-move : (side : Side) (o : Option Man) → Allows Move side o ↔ (o ≡ None)
Allows-move side None = (λ _. refl, λ _. tt)
Allows-move side (Some u) = (λ h. absurd h, λ e. cc)

-- ---- kinds but the pawn move and capture alike

abbrev pub is_both : Mode → Bool
is_both Move = false
is_both Capture = false
is_both Both = true

pub both_is : (m : Mode) → is_both m ≡ true → m ≡ Both
both_is Move e = absurd (false≢true e)
both_is Capture e = absurd (false≢true e)
both_is Both e = refl

abbrev all_both : Step → Bool
all_both s = is_both s.mode

mode_both : (k : Kind) → (k ≡ Pawn → ⊥) → (step : Step) → Denotes (terms_of k) step → step.mode ≡ Both
mode_both King other step d = both_is step.mode (by_table all_both King refl step d)
mode_both Queen other step d = both_is step.mode (by_table all_both Queen refl step d)
mode_both Rook other step d = both_is step.mode (by_table all_both Rook refl step d)
mode_both Bishop other step d = both_is step.mode (by_table all_both Bishop refl step d)
mode_both Knight other step d = both_is step.mode (by_table all_both Knight refl step d)
mode_both Pawn other step d = absurd (other refl)

module _ (b : PlainBoard) (u : Man) (i : ℕ) (played : IsPlayed b.game u.kind) where
  -- what it sees and doesn't hold is what it reaches
  pub IsTarget-seen : (u.kind ≡ Pawn → ⊥) → (set own : ℕ) → set < 2 ^ 64 → own < 2 ^ 64
      → ((j : ℕ) → Has set j ↔ (IsCell b.game j × Aims b u (place_in i) (place_in j))) → ((j : ℕ) → Has own j ↔ (IsCell b.game j × (is_of_side u.side (unit_at b (place_in j)) ≡ true)))
      → (j : ℕ) → Has (bit_and set (bit_not w64 own)) j ↔ IsTarget b u (place_in i) j
  IsTarget-seen other set own fs fo seen owns j =
      let w = Has-minus set own j fs fo in (
        λ h.
            let (s, free) = w.0 h in
            let (c, a) = (seen j).0 s in
            let allows = (Allows-both u.side (unit_at b (place_in j))).1 (λ e. free ((owns j).1 (c, e))) in
            (c, record { step = a.step; played = played; denoted = a.denoted; reaches = record { allows = subst (λ m. Allows m u.side (unit_at b (place_in j))) (sym (mode_both u.kind other a.step a.denoted)) allows; leads = a.leads } }),
        λ (c, r).
            let mode = mode_both u.kind other r.step r.denoted in
            let allows = subst (λ m. Allows m u.side (unit_at b (place_in j))) mode r.reaches.allows in
            w.1 ((seen j).1 (c, record { step = r.step; denoted = r.denoted; captures = λ e. cc (sym mode ∙ e); leads = r.reaches.leads }), λ o. (Allows-both u.side (unit_at b (place_in j))).0 allows ((owns j).0 o).1),
      )

-- ---- pawns

-- a pawn's step moves straight ahead or captures
pawn_step : (step : Step) → Denotes (terms_of Pawn) step → ((step.mode ≡ Move) × (step.rider ≡ false) × (step.dx ≡ pos 0) × (step.dy ≡ pos 1)) ⊎ (step.mode ≡ Capture)
pawn_step step (zero, t, h, e, ts) =
    let a : t.atom ≡ Wazir = sym (ap (λ (x : Term). x.atom) e) in
    let up = ts.leap.ahead (sym (ap (λ (x : Term). x.forward) e)) in
    let ahead : (step.dx ≡ pos 0) × (step.dy ≡ pos 1) = elim (subst (λ x. IsAtomLeap x step.dx step.dy) a ts.leap.atom) [
      | inl w ↦ let p = w.1 in absurd (omega (arith, ints, p, up))
      | inr w ↦ (zero_of step.dx w.0, one_of step.dy w.1 up)
    ] in
    inl (ts.mode ∙ sym (ap (λ (x : Term). x.mode) e), ts.rider ∙ sym (ap (λ (x : Term). x.rider) e), ahead.0, ahead.1)
  where
    one_of : (z : ℤ) → unsigned_abs z ≡ 1 → pos 0 <ℤ z → z ≡ pos 1
    one_of z e p = omega (arith, ints, e, p)
pawn_step step (suc zero, t, h, e, ts) = inr (ts.mode ∙ sym (ap (λ (x : Term). x.mode) e))
pawn_step step (suc (suc k), t, h, e, ts) = absurd (omega (arith, h))

ahead_step : Step
ahead_step = record { dx = pos 0; dy = pos 1; rider = false; mode = Move }

ahead_denoted : Denotes (terms_of Pawn) ahead_step
unfolding ahead_step
ahead_denoted = (0, record { mode = Move; forward = true; atom = Wazir; rider = false }, omega arith, refl, record { leap = record { atom = inr (refl, refl); ahead = λ _. omega (arith, ints) }; rider = refl; mode = refl })

pub next-ahead : (side : Side) (i j : ℕ) → IsNext (ahead_way side) i j ↔ IsAway (pos 0) (ahead_of side (pos 1)) i j
next-ahead White i j = (λ e. e, λ e. e)
next-ahead Black i j = (λ e. e, λ e. e)

step-away : (side : Side) (step : Step) (i j : ℕ) → 17 ≤ i → 17 ≤ j → step.dx ≡ pos 0 → step.dy ≡ pos 1 → IsStep side step (place_in i) (place_in j) → IsAway (pos 0) (ahead_of side (pos 1)) i j
step-away side step i j h k e f s =
    let s' : IsShift (pos 0) (ahead_of side (pos 1)) (place_in i) (place_in j) = subst (λ x. IsShift x (ahead_of side (pos 1)) (place_in i) (place_in j)) e (subst (λ y. IsShift step.dx (ahead_of side y) (place_in i) (place_in j)) f s) in
    let a = s'.file in
    let b = s'.rank in
    omega (arith, ints, a, b, h, k)

pub IsTarget-pawn : (b : PlainBoard) (u : Man) (i : ℕ) → IsCell b.game i → u.kind ≡ Pawn → IsPlayed b.game u.kind → (set foes push : ℕ)
    → ((j : ℕ) → Has set j ↔ (IsCell b.game j × Aims b u (place_in i) (place_in j))) → ((j : ℕ) → Has foes j ↔ (IsCell b.game j × (is_of_side (other_side u.side) (unit_at b (place_in j)) ≡ true)))
    → ((j : ℕ) → Has push j ↔ (IsNext (ahead_way u.side) i j × IsCell b.game j × (unit_at b (place_in j) ≡ None)))
    → (j : ℕ) → Has (bit_or (bit_and set foes) push) j ↔ IsTarget b u (place_in i) j
unfolding ahead_step
IsTarget-pawn b u i ci pawn played set foes push seen others pushes j =
    let w = Has-or (bit_and set foes) push j in
    let v = Has-and set foes j in (
      λ h. elim (w.0 h) [
        | inl x ↦
            let (s, f) = v.0 x in
            let (c, a) = (seen j).0 s in
            let allows : Allows a.step.mode u.side (unit_at b (place_in j)) = elim (pawn_step a.step (subst (λ k. Denotes (terms_of k) a.step) pawn a.denoted)) [
              | inl moves ↦ absurd (a.captures moves.0)
              | inr takes ↦ subst (λ m. Allows m u.side (unit_at b (place_in j))) (sym takes) ((Allows-capture u.side (unit_at b (place_in j))).1 ((others j).0 f).1)
            ] in
            (c, record { step = a.step; played = played; denoted = a.denoted; reaches = record { allows = allows; leads = a.leads } })
        | inr x ↦
            let (e, c, none) = (pushes j).0 x in
            let away = (next-ahead u.side i j).0 e in (
              c,
              record {
                step = ahead_step;
                played = played;
                denoted = subst (λ k. Denotes (terms_of k) ahead_step) (sym pawn) ahead_denoted;
                reaches = record {
                  allows = (Allows-move u.side (unit_at b (place_in j))).1 none;
                  leads = once c.on_board (shift_in b.game (pos 0) (ahead_of u.side (pos 1)) i j ci (omega arith) away c);
                };
              },
            )
      ],
      λ (c, r). w.1 (elim (pawn_step r.step (subst (λ k. Denotes (terms_of k) r.step) pawn r.denoted)) [
        | inl (moves, rider, dx, dy) ↦
            let away = step-away u.side r.step i j ci.above c.above dx dy (single b u.side r.step (place_in i) (place_in j) rider r.reaches.leads) in
            inr ((pushes j).1 ((next-ahead u.side i j).1 away, c, (Allows-move u.side (unit_at b (place_in j))).0 (subst (λ m. Allows m u.side (unit_at b (place_in j))) moves r.reaches.allows)))
        | inr takes ↦ inl (v.1 (
          (seen j).1 (c, record { step = r.step; denoted = r.denoted; captures = λ f. cc (sym takes ∙ f); leads = r.reaches.leads }),
          (others j).1 (c, (Allows-capture u.side (unit_at b (place_in j))).0 (subst (λ m. Allows m u.side (unit_at b (place_in j))) takes r.reaches.allows)),
        ))
      ]),
    )

-- ---- the cell ahead

pub pushed-next : (b : PlainBoard) (side : Side) (i n one empty : ℕ) → 17 ≤ i → n ≡ next_of (ahead_way side) i → ((j : ℕ) → Has one j ↔ (n ≡ j)) → ((j : ℕ) → Has empty j ↔ (IsCell b.game j × (unit_at b (place_in j) ≡ None)))
    → (j : ℕ) → Has (bit_and one empty) j ↔ (IsNext (ahead_way side) i j × IsCell b.game j × (unit_at b (place_in j) ≡ None))
pushed-next b side i n one empty h e ones bare j =
    let w = Has-and one empty j in (
      λ x. let (o, m) = w.0 x in let (c, none) = (bare j).0 m in (subst (IsNext (ahead_way side) i) (sym e ∙ (ones j).0 o) (is-next (ahead_way side) i h), c, none),
      λ (a, c, none). w.1 ((ones j).1 (e ∙ next-is (ahead_way side) i j h a), (bare j).1 (c, none)),
    )
