-- A step at one slot leaves the clauses of the other slots, and adds one call to the table's history or none.
use Rattle.std.proofs.Common.{◌≡◌, ◌≢◌, ◌⊎◌, ℕ, ◌*◌, ◌/◌, ◌<◌, ◌≤◌, ◌==◌, if◌then◌else◌, Bool, true, List, [], ◌∷◌, ◌++◌, length, set, get_or, map, refl, sym, ap, ◌∙◌, subst, ⊎_elim, arith, append_assoc, append-nil, length-set, get_or-set_other, get_or-set_same, eq-eqb, ne_eqb, lt_of_not-le}
use mathlib.Core.Option as option
use mathlib.Core.Logic.{dite}
use native.Mathlib.Decide.{ℕ_discrete}
use lib.ListN.{get_elem?}
use lib.Seq.{set-get_or, map-set}
use Rattle.slots.proofs.Common.{State, keeps, stepped, at_set, at_map, set_again, Call, Act, Asked, Offered, Note, Half, Idle, Reading, Writing, View, Way, Machine, fresh, machine_after, MayReply, run, IsLegal, stores, standing, calls_by, part, call, StoresMeet, way_at, Glance, Fits, Had, SlotHolds, note, blank, glance, gate_at, words_at, TableHolds, words_of, Lists, halfway, ended, Adds, EndsBusy, IsBusy}
use Rattle.slots.specs.declared.calls.Probe as probe
use Rattle.slots.specs.declared.calls.Store as store
use native.Mathlib.Decide.{dec_le}
use Rattle.slots.proofs.Histories.{run-snoc, follows-snoc, stores-front, calls-other, calls-own, part-own, part-other, part-append}
use Rattle.slots.proofs.Seats.{inside}
use Rattle.slots.proofs.SlotKeeps.{HalfDone, half_kept, call_kept}

pub same_slot : (k : ℕ) (h : Half) → (if k == k then h else Idle) ≡ h
same_slot k h = ap (λ (b : Bool). if b then h else Idle) (eq-eqb k k refl)

pub other_slot : (j k : ℕ) (h : Half) → j ≢ k → (if j == k then h else Idle) ≡ Idle
other_slot j k h ne = ap (λ (b : Bool). if b then h else Idle) (ne_eqb j k ne)

pub idle_slot : (j k : ℕ) (h : Half) → h ≡ Idle → (if j == k then h else Idle) ≡ Idle
idle_slot j k h e = dite (ℕ_discrete j k) (λ is. ap (λ (b : Bool). if b then h else Idle) (eq-eqb j k is) ∙ e) (λ ne. other_slot j k h ne)

-- the slot k of a seat whose call is half done there, or that is idle
abbrev pub IsAt : ℕ → View → Type 0
IsAt k v = (v.half ≡ Idle) ⊎ (v.slot ≡ k)

pub here : (k : ℕ) (v : View) → v.slot ≡ k → (glance k v).half ≡ v.half
here k v e = subst (λ (j : ℕ). (if j == k then v.half else Idle) ≡ v.half) (sym e) (same_slot k v.half)

pub elsewhere : (j k : ℕ) (v : View) → IsAt k v → j ≢ k → (glance j v).half ≡ Idle
elsewhere j k v at ne = ⊎_elim (λ (e : v.half ≡ Idle). idle_slot v.slot j v.half e) (λ (e : v.slot ≡ k). other_slot v.slot j v.half (λ is. ne (sym is ∙ e))) at

pub halfway_here : (k : ℕ) (h : Half) (v : View) → glance k (halfway k h v) ≡ record { seated = v.seated; note = note k v.notes; half = h }
halfway_here k h v = λ i. record { seated = v.seated; note = note k v.notes; half = same_slot k h i }

pub halfway_elsewhere : (j k : ℕ) (h : Half) (v : View) → IsAt k v → j ≢ k → glance j (halfway k h v) ≡ glance j v
halfway_elsewhere j k h v at ne = λ i. record { seated = v.seated; note = note j v.notes; half = (other_slot k j h (λ e. ne (sym e)) ∙ sym (elsewhere j k v at ne)) i }

pub ended_here : (k : ℕ) (n : Note) (l : Lists) (v : View) → k < length v.notes → glance k (ended k n l v) ≡ record { seated = v.seated; note = n; half = Idle }
ended_here k n l v room = λ i. record { seated = v.seated; note = get_or-set_same v.notes k n blank room i; half = same_slot k Idle i }

pub ended_elsewhere : (j k : ℕ) (n : Note) (l : Lists) (v : View) → IsAt k v → j ≢ k → glance j (ended k n l v) ≡ glance j v
ended_elsewhere j k n l v at ne = λ i. record { seated = v.seated; note = get_or-set_other v.notes k j n blank ne i; half = (other_slot k j Idle (λ e. ne (sym e)) ∙ sym (elsewhere j k v at ne)) i }

-- what the seat id does at the slot k to the table's history, and what it then knows of it
pub record Onward (history history' : List Call) (id k : ℕ) (w : View) : Type 0 where
  pub parts : (j : ℕ) → j ≢ k → part j history' ≡ part j history
  pub others : (j : ℕ) (u : View) → j ≢ id → Fits history j u → Fits history' j u
  pub own : w.seated ≡ true → Fits history' id w
  pub strangers : (j : ℕ) → j ≢ id → calls_by j history ≡ [] → calls_by j history' ≡ []

-- no call is added
pub stays : (history : List Call) (id k : ℕ) (v w : View) → w.seen ≡ v.seen → w.mine ≡ v.mine → (w.seated ≡ true → Fits history id v) → Onward history history id k w
stays history id k v w seen mine f = record {
  parts = λ _ _. refl;
  others = λ _ _ _ g. g;
  own = λ is. let g = f is in record { seen = (g.seen.0, g.seen.1 ∙ ap (λ l. l ++ g.seen.0) (sym seen)); mine = g.mine ∙ sym mine; once = ap (calls_by id) seen ∙ (g.once ∙ sym mine) };
  strangers = λ _ _ g. g;
}

-- the lists after a call
abbrev pub longer_by : List Call → ℕ → Act → View → Lists
longer_by history k act v = record { seen = history ++ call k v.number act ∷ []; mine = v.mine ++ call k v.number act ∷ [] }

-- a call of the seat is added
pub grows : (history : List Call) (id k : ℕ) (act : Act) (n : Note) (v : View) → v.number ≡ id → Fits history id v → Onward history (history ++ call k v.number act ∷ []) id k (ended k n (longer_by history k act v) v)
grows history id k act n v e f = let c : Call = call k v.number act in record {
  parts = λ j ne. part-other j history c (λ is. ne (sym is));
  others = λ j u ne g. record { seen = (g.seen.0 ++ c ∷ [], ap (λ l. l ++ c ∷ []) g.seen.1 ∙ append_assoc u.seen g.seen.0 (c ∷ [])); mine = calls-other j history c (λ is. ne (sym is ∙ e)) ∙ g.mine; once = g.once };
  own = λ _. record { seen = ([], sym (append-nil (history ++ c ∷ []))); mine = calls-own k v.number id e history act ∙ ap (λ l. l ++ c ∷ []) f.mine; once = calls-own k v.number id e history act ∙ ap (λ l. l ++ c ∷ []) f.mine };
  strangers = λ j ne g. calls-other j history c (λ is. ne (sym is ∙ e)) ∙ g;
}

abbrev pub ats : Half → ℕ
ats (Reading at got) = at
ats (Writing at stood put) = at
ats Idle = 0

abbrev pub lists : Half → List ℕ
lists (Reading at got) = got
lists (Writing at stood put) = put
lists Idle = []

abbrev pub olds : Half → List ℕ
olds (Writing at stood put) = stood
olds _ = []

pub seats_as : (k id : ℕ) (vs : List View) (w : View) (g : Glance) → glance k w ≡ g → set (map (glance k) vs) id (glance k w) ≡ set (map (glance k) vs) id g
seats_as k id vs w g e = ap (set (map (glance k) vs) id) e

pub kept_as : (meets : List ℕ → Type 0) (there : Way) (history history' : List Call) (gate gate' : ℕ) (words words' : List ℕ) (seats seats' : List Glance) → history' ≡ history → gate' ≡ gate → words' ≡ words → seats' ≡ seats → SlotHolds there meets history gate words seats → SlotHolds there meets history' gate' words' seats'
kept_as meets there history history' gate gate' words words' seats seats' o a b c h = subst (λ (z : List Call × ℕ × List ℕ × List Glance). SlotHolds there meets z.0 z.1 z.2 z.3) (λ i. (sym o i, sym a i, sym b i, sym c i)) h

module _ (way : Way) (meets : List ℕ → Type 0) (n : ℕ) where
  abbrev St : Type 0
  St = State ℕ View

  abbrev Rule : St → Type 0
  Rule s = TableHolds way meets n s

  -- A step on one slot leaves the clauses of the others
  pub lifts : (s : St) (r : Rule s) (id k : ℕ) (v w : View) → k < n → get_elem? s.views id ≡ option.some v → w.number ≡ v.number → w.seated ≡ v.seated → w.deals ≡ v.deals
      → ((j : ℕ) → j ≢ k → glance j w ≡ glance j v)
      → (words : List ℕ) (homes : List (option.Option ℕ)) → length words ≡ length s.words
      → ((j : ℕ) → j < n → j ≢ k → (gate_at j words ≡ gate_at j s.words) × (words_at j words ≡ words_at j s.words))
      → (history' : List Call) → Onward r.history history' id k w
      → SlotHolds (way_at k way) meets (part k history') (gate_at k words) (words_at k words) (set (map (glance k) s.views) id (glance k w))
      → Rule record { words = words; homes = homes; views = set s.views id w }
  lifts s r id k v w inn at number seat deals others words homes wide rest history' on mine = let same_length = length-set s.views id w in let below = inside s.views id v at in record {
    history = history';
    wide = wide ∙ r.wide;
    numbers = λ j u e. ⊎_elim
        (λ (t : (j ≡ id) × (w ≡ u)). let was = r.numbers id v at in subst (λ (z : ℕ × View). (z.1.seated ≡ true → z.1.number ≡ z.0) × (0 < z.1.deals → (z.0 ≡ 0) × (z.1.deals ≡ length (set s.views id w)))) (λ i. (sym t.0 i, t.1 i))
        ((λ is. number ∙ was.0 (sym seat ∙ is)), λ some. let old = was.1 (subst (λ (z : ℕ). 0 < z) deals some) in (old.0, deals ∙ (old.1 ∙ sym same_length))))
        (λ (t : (j ≢ id) × (get_elem? s.views j ≡ option.some u)). let was = r.numbers j u t.1 in (was.0, λ some. let old = was.1 some in (old.0, old.1 ∙ sym same_length)))
        (at_set s.views id j w u e);
    each_seat = λ j u e is. ⊎_elim
        (λ (t : (j ≡ id) × (w ≡ u)). subst (λ (z : ℕ × View). z.1.seated ≡ true → Fits history' z.0 z.1) (λ i. (sym t.0 i, t.1 i)) on.own is)
        (λ (t : (j ≢ id) × (get_elem? s.views j ≡ option.some u)). on.others j u t.0 (r.each_seat j u t.1 is))
        (at_set s.views id j w u e);
    strangers = λ j out. let out' : length s.views ≤ j = omega arith in on.strangers j (λ is. absurd (omega arith)) (r.strangers j out');
    beyond = λ j out. on.parts j (λ is. absurd (omega arith)) ∙ r.beyond j out;
    each_slot = λ j lt. dite (ℕ_discrete j k)
        (λ is. subst (λ (z : ℕ). SlotHolds (way_at z way) meets (part z history') (gate_at z words) (words_at z words) (map (glance z) (set s.views id w))) (sym is)
        (subst (λ (l : List Glance). SlotHolds (way_at k way) meets (part k history') (gate_at k words) (words_at k words) l) (sym (map-set (glance k) s.views id w)) mine))
        (λ ne. let same = rest j lt ne in
        let seats : map (glance j) (set s.views id w) ≡ map (glance j) s.views =
        map-set (glance j) s.views id w ∙ (ap (λ (g : Glance). set (map (glance j) s.views) id g) (others j ne) ∙ set_again (map (glance j) s.views) id (glance j v) (at_map (glance j) s.views id v at)) in
        subst (λ (z : List Call × ℕ × List ℕ × List Glance). SlotHolds (way_at j way) meets z.0 z.1 z.2 z.3) (λ i. (sym (on.parts j ne) i, sym same.0 i, sym same.1 i, sym seats i)) (r.each_slot j lt));
  }

  -- a step that changes no word
  pub lifts_read : (s : St) (r : Rule s) (i id k : ℕ) (v w : View) (cs : List (ℕ × ℕ)) → k < n → get_elem? s.views id ≡ option.some v → w.number ≡ v.number → w.seated ≡ v.seated → w.deals ≡ v.deals
      → ((j : ℕ) → j ≢ k → glance j w ≡ glance j v)
      → (history' : List Call) → Onward r.history history' id k w
      → SlotHolds (way_at k way) meets (part k history') (gate_at k s.words) (words_at k s.words) (set (map (glance k) s.views) id (glance k w))
      → Rule (stepped s i (get_or s.words i 0) id cs w keeps)
  lifts_read s r i id k v w cs lt at number seat deals others history' on mine = subst (λ (ws : List ℕ). Rule record { words = ws; homes = s.homes; views = set s.views id w }) (sym (set-get_or s.words i 0))
      (lifts s r id k v w lt at number seat deals others s.words s.homes refl (λ _ _ _. (refl, refl)) history' on mine)

  pub fits_at : (s : St) (r : Rule s) (id : ℕ) (v : View) → get_elem? s.views id ≡ option.some v → v.seated ≡ true → Fits r.history id v
  fits_at s r id v at seated = r.each_seat id v at seated

  -- what a seat has seen has no more stores than half the gate
  pub seen_below : (s : St) (r : Rule s) (id k : ℕ) (v : View) (lt : k < n) → get_elem? s.views id ≡ option.some v → v.seated ≡ true → 2 * stores (part k v.seen) ≤ gate_at k s.words
  seen_below s r id k v lt at seated = let f = fits_at s r id v at seated in let q = r.each_slot k lt in let count = q.numbers.counted in
      let all : stores (part k v.seen) ≤ stores (part k r.history) = subst (λ (h : List Call). stores (part k v.seen) ≤ stores h) (sym (ap (part k) f.seen.1 ∙ part-append k v.seen f.seen.0)) (stores-front fresh (part k v.seen) (part k f.seen.0)) in omega arith

  -- a call goes on, and no word changes
  pub goes_on : (s : St) (r : Rule s) (i id k : ℕ) (v : View) (cs : List (ℕ × ℕ)) (lt : k < n) → get_elem? s.views id ≡ option.some v → IsAt k v
      → (h : Half) → HalfDone (gate_at k s.words) (words_at k s.words) (words_of (standing (part k r.history))) (r.each_slot k lt).claim.writer id h → Rule (stepped s i (get_or s.words i 0) id cs (halfway k h v) keeps)
  goes_on s r i id k v cs lt at there h done = lifts_read s r i id k v (halfway k h v) cs lt at refl refl refl (λ j ne. halfway_elsewhere j k h v there ne)
      r.history (stays r.history id k v (halfway k h v) refl refl (r.each_seat id v at))
      (subst (λ (g : Glance). SlotHolds (way_at k way) meets (part k r.history) (gate_at k s.words) (words_at k s.words) (set (map (glance k) s.views) id g)) (sym (halfway_here k h v))
      (half_kept (way_at k way) meets (part k r.history) (gate_at k s.words) (words_at k s.words) (map (glance k) s.views) (r.each_slot k lt) id (glance k v) (at_map (glance k) s.views id v at) h done))

  -- the history is legal at each slot
  pub legal_at : (s : St) (r : Rule s) (j : ℕ) → IsLegal (way_at j way) (part j r.history)
  legal_at s r j = dite (dec_le n j) (λ out. subst (IsLegal (way_at j way)) (sym (r.beyond j out)) tt) (λ inn. (r.each_slot j (lt_of_not-le inn)).reads.legal)

  -- the table's history after a call at the slot k
  pub adds : (s : St) (r : Rule s) (id k : ℕ) (v : View) (lt : k < n) → get_elem? s.views id ≡ option.some v → v.seated ≡ true → (act : Act) → MayReply (way_at k way) (run fresh (part k r.history)) act
      → Adds way k v.number act v.seen v.mine (r.history ++ call k v.number act ∷ []) (v.mine ++ call k v.number act ∷ [])
  adds s r id k v lt at seated act may = let f = fits_at s r id v at seated in let number = (r.numbers id v at).0 seated in let c : Call = call k v.number act in record {
    between = f.seen.0;
    all = ap (λ l. l ++ c ∷ []) f.seen.1;
    legal = λ j. dite (ℕ_discrete j k)
        (λ is. subst (λ z. IsLegal (way_at z way) (part z (r.history ++ c ∷ []))) (sym is) (subst (IsLegal (way_at k way)) (sym (part-own k r.history c refl)) (follows-snoc (way_at k way) fresh (part k r.history) c (r.each_slot k lt).reads.legal may)))
        (λ ne. subst (IsLegal (way_at j way)) (sym (part-other j r.history c (λ is. ne (sym is)))) (legal_at s r j));
    own = refl;
    once = subst (λ (z : ℕ). calls_by z (r.history ++ c ∷ []) ≡ v.mine ++ c ∷ []) (sym number) (calls-own k v.number id number r.history act ∙ ap (λ l. l ++ c ∷ []) f.mine);
  }

  -- a call ends, and no word changes
  pub stops : (s : St) (r : Rule s) (i id k : ℕ) (v : View) (cs : List (ℕ × ℕ)) (lt : k < n) → get_elem? s.views id ≡ option.some v → IsAt k v → v.seated ≡ true → length v.notes ≡ n
      → (act : Act) → MayReply (way_at k way) (run fresh (part k r.history)) act → machine_after (run fresh (part k r.history)) act ≡ run fresh (part k r.history) → StoresMeet meets act
      → (low high : ℕ) → low ≤ high → high ≤ gate_at k s.words
      → (m : Note) × (l : Lists) × (m.low ≡ low) × (m.high ≡ high) × Rule (stepped s i (get_or s.words i 0) id cs (ended k m l v) keeps) × Adds way k v.number act v.seen v.mine l.seen l.mine × (stores (part k l.seen) ≡ gate_at k s.words / 2)
  stops s r i id k v cs lt at there seated room act may same ok low high a b =
      let q = r.each_slot k lt in
      let m : Note = record { low = low; high = high } in
      let c : Call = call k v.number act in
      let l : Lists = longer_by r.history k act v in
      let number = (r.numbers id v at).0 seated in
      let f = fits_at s r id v at seated in
      let own = part-own k r.history c refl in (
        m,
        l,
        refl,
        refl,
        lifts_read s r i id k v (ended k m l v) cs lt at refl refl refl (λ j ne. ended_elsewhere j k m l v there ne)
            (r.history ++ c ∷ []) (grows r.history id k act m v number f)
            (subst (λ (z : List Call × Glance). SlotHolds (way_at k way) meets z.0 (gate_at k s.words) (words_at k s.words) (set (map (glance k) s.views) id z.1)) (λ j. (sym own j, sym (ended_here k m l v (omega arith)) j))
            (call_kept (way_at k way) meets (part k r.history) (gate_at k s.words) (words_at k s.words) (map (glance k) s.views) q id (glance k v) (at_map (glance k) s.views id v at) c may same ok low high a b)),
        adds s r id k v lt at seated act may,
        ap stores own ∙ (ap (λ (x : Machine). x.stores) (run-snoc fresh (part k r.history) c ∙ same) ∙ q.numbers.counted),
      )

  pub busy_may : (there : Way) (m : Machine) (a : Act) → IsBusy a → MayReply there m a
  busy_may there m (Asked k probe.TheVariants.Busy) h = tt
  busy_may there m (Asked k probe.TheVariants.Vacant) h = absurd h
  busy_may there m (Asked k probe.TheVariants.Other) h = absurd h
  busy_may there m (Asked k (probe.TheVariants.Hit w)) h = absurd h
  busy_may there m (Offered w store.TheVariants.Busy) h = tt
  busy_may there m (Offered w store.TheVariants.Stored) h = absurd h
  busy_may there m (Offered w store.TheVariants.Worn) h = absurd h
  busy_may there m (Offered w (store.TheVariants.Kept r)) h = absurd h

  pub busy_same : (m : Machine) (a : Act) → IsBusy a → machine_after m a ≡ m
  busy_same m (Offered w store.TheVariants.Stored) h = absurd h
  busy_same m _ h = refl

  pub busy_meets : (a : Act) → IsBusy a → StoresMeet meets a
  busy_meets (Offered w store.TheVariants.Stored) h = absurd h
  busy_meets _ h = tt

  pub stops_busy : (s : St) (r : Rule s) (i id k : ℕ) (v : View) (cs : List (ℕ × ℕ)) (lt : k < n) → get_elem? s.views id ≡ option.some v → IsAt k v → v.seated ≡ true → length v.notes ≡ n
      → (act : Act) → IsBusy act → (low high : ℕ) → low ≤ high → high ≡ gate_at k s.words
      → (w : View) × Rule (stepped s i (get_or s.words i 0) id cs w keeps) × EndsBusy way k act low high v w
  stops_busy s r i id k v cs lt at there seated room act busy low high a b =
      let m : Machine = run fresh (part k r.history) in
      let t = stops s r i id k v cs lt at there seated room act (busy_may (way_at k way) m act busy) (busy_same m act busy) (busy_meets act busy) low high a (omega arith) in
      (ended k t.0 t.1 v, t.4, (t.0, t.1, refl, t.5, t.2, t.3, t.6 ∙ ap (λ z. z / 2) (sym b)))

  pub half_at : (s : St) (r : Rule s) (id k : ℕ) (v : View) (lt : k < n) → get_elem? s.views id ≡ option.some v → v.slot ≡ k → HalfDone (gate_at k s.words) (words_at k s.words) (words_of (standing (part k r.history))) (r.each_slot k lt).claim.writer id v.half
  half_at s r id k v lt at e = let q = r.each_slot k lt in let there = at_map (glance k) s.views id v at in subst (λ (h : Half). HalfDone (gate_at k s.words) (words_at k s.words) (words_of (standing (part k r.history))) q.claim.writer id h) (here k v e)
      (q.numbers.passed id (glance k v) there, q.claim.claims id (glance k v) there, q.reads.read id (glance k v) there)

  pub cause_at : (s : St) (r : Rule s) (id k : ℕ) (v : View) (lt : k < n) → get_elem? s.views id ≡ option.some v → v.seated ≡ true → Had (gate_at k s.words) (note k v.notes)
  cause_at s r id k v lt at seated = (r.each_slot k lt).numbers.had id (glance k v) (at_map (glance k) s.views id v at) seated
