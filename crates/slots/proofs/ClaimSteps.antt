-- The steps of the second pass at the table: the claim is taken, words are written under it, and the store ends.
use Rattle.std.proofs.Common.{◌≡◌, ◌≢◌, ℕ, ◌+◌, ◌*◌, ◌%◌, ◌<◌, ◌≤◌, eqb, if◌then◌else◌, Bool, true, false, List, [], ◌∷◌, ◌++◌, length, set, map, refl, sym, ap, ◌∙◌, subst, inr, arith, length-set, eq-eqb, ne_eqb}
use Rattle.slots.proofs.Common.{take_all, State, Me, keeps, stepped, Allows, at_map, Call, Act, Offered, Note, Half, Idle, Reading, Writing, View, Way, fresh, run, standing, part, call, way_at, note, glance, gate_at, words_at, TableHolds, words_of, Lists, halfway, ended, Ends, EndsBusy, claimed, written, published, IsBusy, Yields}
use mathlib.Core.Option as option
use mathlib.Core.Logic.{dite}
use native.Mathlib.Decide.{ℕ_discrete}
use lib.ListN.{get_elem?}
use Rattle.slots.specs.declared.calls.Store as store
use prog.Atomic.{either}
use Rattle.slots.proofs.Histories.{part-own, standing-meets}
use Rattle.slots.proofs.ClaimPass.{yields_may}
use Rattle.slots.proofs.SlotKeeps.{HalfDone, claim_kept, put_kept, end_kept}
use Rattle.slots.proofs.Words.{gate_set, word_set, others_at}
use Rattle.slots.proofs.TableStep.{halfway_here, halfway_elsewhere, ended_here, ended_elsewhere, stays, longer_by, grows, ats, lists, olds, seats_as, kept_as, lifts, fits_at, adds, stops_busy, half_at, cause_at}

module _ (way : Way) (meets : List ℕ → Type 0) (n : ℕ) where
  abbrev St : Type 0
  St = State ℕ View

  abbrev Rule : St → Type 0
  Rule s = TableHolds way meets n s

  pub even_way : (k : ℕ) (r w : List ℕ) → k % 2 ≡ 0 → (way_at k way).prefers r w ≡ way.prefers r w
  even_way k r w e = ap (λ (b : Bool). if b then way.prefers r w else false) (eq-eqb (k % 2) 0 e)

  pub inside_table : (s : St) (r : Rule s) (k i : ℕ) → k < n → i < 4 → 4 * k + i < length s.words
  inside_table s r k i lt inn = let wide = r.wide in omega arith

  pub claim_at : (s : St) (r : Rule s) (id k : ℕ) (v : View) (cs : List (ℕ × ℕ)) (lt : k < n) → get_elem? s.views id ≡ option.some v → v.slot ≡ k → gate_at k s.words % 2 ≡ 0 → (new : ℕ) → new ≡ gate_at k s.words + 1
      → (stood : List ℕ) → (length stood ≡ 3 → stood ≡ words_of (standing (part k r.history))) → Rule (stepped s (4 * k) new id cs (halfway k (Writing new stood []) v) keeps)
  claim_at s r id k v cs lt at there even new up stood was =
      let g : ℕ = gate_at k s.words in
      let ws : List ℕ = words_at k s.words in
      let room : 4 * k < length s.words = (let t = inside_table s r k 0 lt (omega arith) in omega arith) in
      let now = gate_set k new s.words room in
      let half : Half = Writing new stood [] in
      let w : View = halfway k half v in
      let glances : set (map (glance k) s.views) id (glance k w) ≡ set (map (glance k) s.views) id record { seated = v.seated; note = note k v.notes; half = Writing (g + 1) stood [] } =
      seats_as k id s.views w record { seated = v.seated; note = note k v.notes; half = Writing (g + 1) stood [] } (halfway_here k half v ∙ (λ i. record { seated = v.seated; note = note k v.notes; half = Writing (up i) stood [] })) in
      lifts way meets n s r id k v w lt at refl refl refl (λ j ne. halfway_elsewhere j k half v (inr there) ne) (set s.words (4 * k) new) s.homes (length-set s.words (4 * k) new)
      (others_at n k 0 new s.words (4 * k) (omega arith) (omega arith))
      r.history (stays r.history id k v w refl refl (r.each_seat id v at))
      (kept_as meets (way_at k way) (part k r.history) _ (g + 1) _ ws _ _ _ refl (now.0 ∙ up) now.1 glances
      (claim_kept (way_at k way) meets (part k r.history) g ws (map (glance k) s.views) (r.each_slot k lt) id (glance k v) (at_map (glance k) s.views id v at) even stood was))

  pub claims : (slots id : ℕ) (me : Me ℕ View) (k at : ℕ) (got : List ℕ) (new : ℕ) (busy : Act) → k < n → length me.0.notes ≡ n → me.0.seated ≡ true
      → me.0.half ≡ Reading at got → me.0.slot ≡ k → new ≡ at + 1 → IsBusy busy
      → Allows Rule slots id me (4 * k) (λ x. either (eqb x at) new x) (claimed way busy at new me)
  claims slots id me k at got new busy lt room seated is there up isbusy s r _ here' _ =
      let v : View = me.0 in
      let g : ℕ = gate_at k s.words in
      let ws : List ℕ = words_at k s.words in
      let q = r.each_slot k lt in
      let half = subst (λ (h : Half). HalfDone g ws (words_of (standing (part k r.history))) q.claim.writer id h) is (half_at way meets n s r id k v lt here' there) in
      let even : at % 2 ≡ 0 = half.0.0 in
      let below : at ≤ g = half.0.1 in
      dite (ℕ_discrete g at)
      (λ (same : g ≡ at). (
        halfway k (Writing new got []) v,
        keeps,
        tt,
        subst (λ b. Rule (stepped s (4 * k) (either b new g) id me.1 (halfway k (Writing new got []) v) keeps)) (sym (eq-eqb g at same))
            (claim_at s r id k v me.1 lt here' there (subst (λ z. z % 2 ≡ 0) (sym same) even) new (up ∙ ap (λ z. z + 1) (sym same)) got
            (λ full. half.2 (sym same) ∙ (take_all (length got) ws (omega arith) ∙ q.claim.at_rest (subst (λ z. z % 2 ≡ 0) (sym same) even)))),
        (refl, (λ got' is' _. let e = sym is ∙ is' in λ j. halfway (sym there j) (Writing new (ap lists e j) []) v), λ ne. absurd (ne same)),
      ))
      (λ (other : g ≢ at).
      let t = stops_busy way meets n s r (4 * k) id k v me.1 lt here' (inr there) seated room busy isbusy at g below refl in (
        t.0,
        keeps,
        tt,
        subst (λ b. Rule (stepped s (4 * k) (either b new g) id me.1 t.0 keeps)) (sym (ne_eqb g at other)) t.1,
        (refl, (λ _ _ same. absurd (other same)), λ _. (omega arith, subst (λ (z : ℕ). EndsBusy way z busy at g v t.0) (sym there) t.2)),
      ))

  pub writes : (slots id : ℕ) (me : Me ℕ View) (k i at : ℕ) (stood put : List ℕ) (word : ℕ) → k < n → me.0.half ≡ Writing at stood put → me.0.slot ≡ k → length put ≡ i → i < 3
      → Allows Rule slots id me (4 * k + 1 + i) (λ _. word) (λ _. written word me)
  writes slots id me k i at stood put word lt is there count inn s r _ here' _ =
      let v : View = me.0 in
      let g : ℕ = gate_at k s.words in
      let ws : List ℕ = words_at k s.words in
      let q = r.each_slot k lt in
      let done = subst (λ (h : Half). HalfDone g ws (words_of (standing (part k r.history))) q.claim.writer id h) is (half_at way meets n s r id k v lt here' there) in
      let p : ℕ = 4 * k + 1 + i in
      let room : p < length s.words = (let t = inside_table s r k (1 + i) lt (omega arith) in omega arith) in
      let now = word_set k i word s.words inn room in
      let half : Half = Writing at stood (put ++ word ∷ []) in
      let w : View = halfway k half v in (
        w,
        keeps,
        tt,
        lifts way meets n s r id k v w lt here' refl refl refl (λ j ne. halfway_elsewhere j k half v (inr there) ne) (set s.words p word) s.homes (length-set s.words p word)
            (others_at n k (1 + i) word s.words p (omega arith) (omega arith))
            r.history (stays r.history id k v w refl refl (r.each_seat id v here'))
            (kept_as meets (way_at k way) (part k r.history) _ g _ (set ws (length put) word) _ _ _ refl now.0 (now.1 ∙ ap (λ z. set ws z word) (sym count)) (seats_as k id s.views w record { seated = v.seated; note = note k v.notes; half = half } (halfway_here k half v))
            (put_kept (way_at k way) meets (part k r.history) g ws (map (glance k) s.views) q id (glance k v) (at_map (glance k) s.views id v here') at stood put word done (omega arith))),
        (refl, λ at' stood' put' is'. let e = sym is ∙ is' in λ j. halfway (sym there j) (Writing (ap ats e j) (ap olds e j) (ap lists e j ++ word ∷ [])) v),
      )

  pub publishes : (slots id : ℕ) (me : Me ℕ View) (k at : ℕ) (stood put : List ℕ) (new : ℕ) (done : Act) → k < n → length me.0.notes ≡ n → me.0.seated ≡ true
      → me.0.half ≡ Writing at stood put → Yields meets (way_at k way) stood put → me.0.slot ≡ k → length put ≡ 3 → new ≡ at + 1 → done ≡ Offered put store.TheVariants.Stored → meets put
      → Allows Rule slots id me (4 * k) (λ _. new) (λ _. published way done me)
  publishes slots id me k at stood put new done lt room seated is yields there whole up act ok s r _ here' _ =
      let v : View = me.0 in
      let g : ℕ = gate_at k s.words in
      let ws : List ℕ = words_at k s.words in
      let q = r.each_slot k lt in
      let half = subst (λ (h : Half). HalfDone g ws (words_of (standing (part k r.history))) q.claim.writer id h) is (half_at way meets n s r id k v lt here' there) in
      let c = cause_at way meets n s r id k v lt here' seated in
      let number = (r.numbers id v here').0 seated in
      let f = fits_at way meets n s r id v here' seated in
      let stored : Act = Offered put store.TheVariants.Stored in
      let m : Note = note k v.notes in
      let l : Lists = longer_by r.history k stored v in
      let x : Call = call k v.number stored in
      let w : View = ended k m l v in
      let size : 4 * k < length s.words = (let t = inside_table s r k 0 lt (omega arith) in omega arith) in
      let now = gate_set k new s.words size in (
        w,
        keeps,
        tt,
        lifts way meets n s r id k v w lt here' refl refl refl (λ j ne. ended_elsewhere j k m l v (inr there) ne) (set s.words (4 * k) new) s.homes (length-set s.words (4 * k) new)
            (others_at n k 0 new s.words (4 * k) (omega arith) (omega arith))
            (r.history ++ x ∷ []) (grows r.history id k stored m v number f)
            (kept_as meets (way_at k way) (part k r.history ++ x ∷ []) _ (g + 1) _ ws _ _ _ (part-own k r.history x refl) (now.0 ∙ (up ∙ ap (λ z. z + 1) half.1.1)) now.1 (seats_as k id s.views w record { seated = v.seated; note = m; half = Idle } (ended_here k m l v (omega arith)))
            (end_kept (way_at k way) meets (part k r.history) g ws (map (glance k) s.views) q id (glance k v) (at_map (glance k) s.views id v here') at stood put half yields whole ok x refl m.low m.high c.0 c.1)),
        (
          refl,
          subst (λ (z : ℕ × Act). Ends way z.0 z.1 v w) (λ j. (sym there j, sym act j)) (m, l, refl, adds way meets n s r id k v lt here' seated stored (yields_may meets (way_at k way) stood put (run fresh (part k r.history)) yields half.1.4 (λ w e. standing-meets meets fresh (part k r.history) q.claim.lore w e (λ e'. absurd (cc))))),
        ),
      )
