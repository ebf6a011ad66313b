-- What a caller has seen holds together after a telling, and the numbers that it knows are the gate's.
use Rattle.std.proofs.Common.{◌≡◌, ◌⊎◌, ℕ, ◌*◌, ◌/◌, ◌%◌, ◌<◌, ◌≤◌, true, List, length, get_or, map, refl, sym, ap, ◌∙◌, subst, arith}
use mathlib.Core.Option as option
use lib.ListN.{get_elem?}
use Rattle.slots.proofs.Common.{State, Me, keeps, stepped, Allows, TableId, Seat, at_map, set_again, View, Way, fresh, IsLegal, stores, calls_by, part, way_at, Glance, SlotHolds, glance, gate_at, words_at, TableHolds, Recalls, counted, confirmed, slots_of, known, seen, IsSeatOf, GateHad, HasCause}
use Rattle.slots.proofs.Histories.{part-append, follows-front}
use Rattle.slots.proofs.TableStep.{stays, lifts_read, fits_at, legal_at, cause_at}

module _ (way : Way) (meets : List ℕ → Type 0) (n : ℕ) where
  abbrev St : Type 0
  St = State ℕ View

  abbrev Rule : St → Type 0
  Rule s = TableHolds way meets n s

  -- what a seated caller has seen is legal, and has all of its own calls
  recalls : (s : St) (r : Rule s) (id : ℕ) (v : View) → get_elem? s.views id ≡ option.some v → v.seated ≡ true → Recalls way (counted v)
  recalls s r id v at seated = let f = fits_at way meets n s r id v at seated in record {
    legal = λ k. follows-front (way_at k way) fresh (part k v.seen) (part k f.seen.0)
        (subst (IsLegal (way_at k way)) (ap (part k) f.seen.1 ∙ part-append k v.seen f.seen.0) (legal_at way meets n s r k));
    once = ap (λ (z : ℕ). calls_by z v.seen) ((r.numbers id v at).0 seated) ∙ f.once;
  }

  -- a step that only counts itself keeps the rule
  counts : (s : St) (r : Rule s) (i id : ℕ) (v : View) (cs : List (ℕ × ℕ)) → 0 < n → get_elem? s.views id ≡ option.some v → Rule (stepped s i (get_or s.words i 0) id cs (counted v) keeps)
  counts s r i id v cs some at = lifts_read way meets n s r i id 0 v (counted v) cs some at refl refl refl (λ _ _. refl)
      r.history (stays r.history id 0 v (counted v) refl refl (r.each_seat id v at))
      (subst (λ (l : List Glance). SlotHolds (way_at 0 way) meets (part 0 r.history) (gate_at 0 s.words) (words_at 0 s.words) l)
      (sym (set_again (map (glance 0) s.views) id (glance 0 v) (at_map (glance 0) s.views id v at))) (r.each_slot 0 some))

  pub confirms : (slots id : ℕ) (me : Me ℕ View) (i : ℕ) → 0 < n → me.0.seated ≡ true → Allows Rule slots id me i (λ x. x) (λ _. confirmed way me)
  confirms slots id me i some seated s r _ at _ = (counted me.0, keeps, tt, counts s r i id me.0 me.1 some at, (refl, refl, recalls s r id me.0 at seated))

pub gate_had : (way : Way) (meets : List ℕ → Type 0) (table : TableId) (slot : ℕ) (seat : Seat ℕ View) → slot < slots_of table → GateHad way meets table slot seat (known slot seat).low × GateHad way meets table slot seat (known slot seat).high
gate_had way meets table slot seat less = (
  (λ s r at seated. let had = cause_at way meets (slots_of table) s r seat.id slot seat.me.0 less at seated in omega arith),
  (λ s r at seated. let had = cause_at way meets (slots_of table) s r seat.id slot seat.me.0 less at seated in had.1),
)

-- what the two numbers say of the calls that the caller had seen, and has seen now
abbrev pub Moved : ℕ → Seat ℕ View → Seat ℕ View → Type 0
Moved slot before after = let low = (known slot after).low in let high = (known slot after).high in
    (2 * stores (seen slot before) ≤ low) × (low ≤ high) × ((low % 2 ≡ 1) ⊎ (low < high)) × (stores (seen slot after) ≡ high / 2)

pub has_cause : (way : Way) (meets : List ℕ → Type 0) (table : TableId) (slot : ℕ) (before after : Seat ℕ View) → slot < slots_of table → Moved slot before after → HasCause way meets table slot before after
has_cause way meets table slot before after less m = let had = gate_had way meets table slot after less in (m.0, m.1, m.2, m.3, had.0, had.1)

-- a seat that was told, and has made one step more
pub confirmed_seat : (way : Way) (table : TableId) (b c : Seat ℕ View) → IsSeatOf table b → c.table_id ≡ b.table_id → confirmed way b.me c.me → IsSeatOf table c
confirmed_seat way table b c t same is =
    let now : c.me.0 ≡ counted b.me.0 = is.1 in (
      (
        same ∙ t.0.0,
        is.0 ∙ t.0.1,
        ap (λ (z : View). z.seated) now ∙ t.0.2,
        ap (λ (z : View). 4 * length z.notes) now ∙ t.0.3,
      ),
      ap (λ (z : View). z.half) now ∙ t.1,
    )
