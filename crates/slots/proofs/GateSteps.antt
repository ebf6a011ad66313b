-- The steps of the first pass at the table: the gate is read to begin a probe or a store.
use Rattle.std.proofs.Common.{◌≡◌, ◌≢◌, ℕ, ◌-◌, ◌*◌, ◌%◌, ◌^◌, ◌<◌, ◌≤◌, true, List, [], length, refl, sym, subst, inl, arith, le_refl, lt_of_not-le}
use mathlib.Core.Logic.{dite}
use native.Mathlib.Decide.{ℕ_discrete}
use Rattle.slots.proofs.Common.{State, Me, keeps, Allows, Act, Asked, Offered, Idle, Reading, View, Way, Machine, fresh, machine_after, MayReply, run, stores, part, StoresMeet, way_at, note, gate_at, TableHolds, halfway, ended, begun, offered, IsBusy, IsWorn}
use Rattle.slots.specs.declared.calls.Store as store
use native.Mathlib.Decide.{dec_le}
use Rattle.slots.proofs.GatePass.{full_gate}
use Rattle.slots.proofs.TableStep.{seen_below, goes_on, stops, stops_busy, cause_at}

module _ (way : Way) (meets : List ℕ → Type 0) (n : ℕ) where
  abbrev St : Type 0
  St = State ℕ View

  abbrev Rule : St → Type 0
  Rule s = TableHolds way meets n s

  pub begins : (slots id : ℕ) (me : Me ℕ View) (k : ℕ) (busy : Act) → k < n → length me.0.notes ≡ n → me.0.seated ≡ true → me.0.half ≡ Idle → IsBusy busy
      → Allows Rule slots id me (4 * k) (λ x. x) (begun way k busy me)
  begins slots id me k busy lt room seated idle is s r _ at _ = let g : ℕ = gate_at k s.words in let v : View = me.0 in let front = seen_below way meets n s r id k v lt at seated in dite (ℕ_discrete (g % 2) 0)
      (λ (even : g % 2 ≡ 0). (halfway k (Reading g []) v, keeps, tt, goes_on way meets n s r (4 * k) id k v me.1 lt at (inl idle) (Reading g []) ((even, le_refl g), tt, λ _. refl), (refl, front, (λ _. refl), λ odd. absurd (omega arith))))
      (λ (odd : g % 2 ≢ 0). let t = stops_busy way meets n s r (4 * k) id k v me.1 lt at (inl idle) seated room busy is g g (le_refl g) refl in (t.0, keeps, tt, t.1, (refl, front, (λ even. absurd (odd even)), λ _. t.2)))

  pub begins_told : (slots id : ℕ) (me : Me ℕ View) (told k : ℕ) (busy : Act) → told ≡ k → k < n → length me.0.notes ≡ n → me.0.seated ≡ true → me.0.half ≡ Idle → IsBusy busy
      → Allows Rule slots id me (4 * k) (λ x. x) (begun way told busy me)
  begins_told slots id me told k busy e lt room seated idle is =
      subst (λ (z : ℕ). Allows Rule slots id me (4 * k) (λ x. x) (begun way z busy me)) (sym e) (begins slots id me k busy lt room seated idle is)

  pub worn_ends : (there : Way) (m : Machine) (a : Act) → IsWorn a → m.stores ≡ 2 ^ 63 - 1 → MayReply there m a × (machine_after m a ≡ m) × StoresMeet meets a
  worn_ends there m (Offered w store.TheVariants.Worn) h e = (e, refl, tt)
  worn_ends there m (Offered w store.TheVariants.Stored) h e = absurd h
  worn_ends there m (Offered w store.TheVariants.Busy) h e = absurd h
  worn_ends there m (Offered w (store.TheVariants.Kept r)) h e = absurd h
  worn_ends there m (Asked k r) h e = absurd h

  pub offers : (slots id : ℕ) (me : Me ℕ View) (told k : ℕ) (busy worn : Act) → told ≡ k → k < n → length me.0.notes ≡ n → me.0.seated ≡ true → me.0.half ≡ Idle → IsBusy busy → IsWorn worn
      → Allows Rule slots id me (4 * k) (λ x. x) (offered way told busy worn me)
  offers slots id me told k busy worn e lt room seated idle is is' s r _ at small =
      let g : ℕ = gate_at k s.words in
      let v : View = me.0 in
      let front = seen_below way meets n s r id k v lt at seated in
      let q = r.each_slot k lt in
      dite (ℕ_discrete (g % 2) 0)
      (λ (even : g % 2 ≡ 0). dite (dec_le g (2 ^ 64 - 4))
      (λ (low : g ≤ 2 ^ 64 - 4). (
        halfway k (Reading g []) v,
        keeps,
        tt,
        goes_on way meets n s r (4 * k) id k v me.1 lt at (inl idle) (Reading g []) ((even, le_refl g), tt, λ _. refl),
        subst (λ (z : ℕ). offered way z busy worn me g (halfway k (Reading g []) v, me.1)) (sym e)
            (refl, front, (λ _ _. refl), (λ _ high. absurd (omega arith)), λ odd. absurd (omega arith)),
      ))
      (λ (high : ¬ (g ≤ 2 ^ 64 - 4)).
      let c = cause_at way meets n s r id k v lt at seated in
      let count = q.numbers.counted in
      let full : stores (part k r.history) ≡ 2 ^ 63 - 1 = full_gate g (stores (part k r.history)) even (lt_of_not-le high) small count in
      let w = worn_ends (way_at k way) (run fresh (part k r.history)) worn is' full in
      let t = stops way meets n s r (4 * k) id k v me.1 lt at (inl idle) seated room worn w.0 w.1 w.2 (note k v.notes).low (note k v.notes).high c.0 c.1 in (
        ended k t.0 t.1 v,
        keeps,
        tt,
        t.4,
        subst (λ (z : ℕ). offered way z busy worn me g (ended k t.0 t.1 v, me.1)) (sym e)
            (refl, front, (λ _ low. absurd (high low)), (λ _ _. (t.0, t.1, refl, t.5)), λ odd. absurd (omega arith)),
      )))
      (λ (odd : g % 2 ≢ 0).
      let t = stops_busy way meets n s r (4 * k) id k v me.1 lt at (inl idle) seated room busy is g g (le_refl g) refl in (
        t.0,
        keeps,
        tt,
        t.1,
        subst (λ (z : ℕ). offered way z busy worn me g (t.0, me.1)) (sym e)
            (refl, front, (λ even _. absurd (odd even)), (λ even _. absurd (odd even)), λ _. t.2),
      ))
