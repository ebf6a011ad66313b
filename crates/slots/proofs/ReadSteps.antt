-- The steps of the third pass at the table: words are read, and the gate is read to end.
use Rattle.std.proofs.Common.{◌≡◌, ◌≢◌, ℕ, ◌+◌, ◌*◌, ◌%◌, ◌<◌, ◌≤◌, true, false, true≢false, List, [], ◌∷◌, ◌++◌, length, take, get_or, Option, Some, None, refl, sym, ap, ◌∙◌, subst, inl, inr, arith}
use Rattle.slots.proofs.Common.{take_all, State, Me, keeps, Allows, Act, Asked, Offered, Half, Reading, View, Way, Machine, fresh, machine_after, MayReply, run, standing, part, StoresMeet, way_at, note, gate_at, words_at, TableHolds, words_of, halfway, ended, Ends, EndsBusy, HitFits, read, looked, IsBusy, IsProbeReply, IsWhole, zeros}
use mathlib.Core.Logic.{dite}
use native.Mathlib.Decide.{ℕ_discrete}
use Rattle.slots.specs.declared.calls.Probe as probe
use Rattle.slots.specs.declared.calls.Store as store
use Rattle.slots.proofs.Histories.{standing-meets}
use Rattle.slots.proofs.ReadsPass.{got_more}
use Rattle.slots.proofs.SlotKeeps.{HalfDone}
use Rattle.slots.proofs.Words.{word_of}
use Rattle.slots.proofs.ClaimSteps.{even_way}
use Rattle.slots.proofs.TableStep.{ats, lists, goes_on, stops, stops_busy, half_at, cause_at}

module _ (way : Way) (meets : List ℕ → Type 0) (n : ℕ) where
  abbrev St : Type 0
  St = State ℕ View

  abbrev Rule : St → Type 0
  Rule s = TableHolds way meets n s

  pub reads : (slots id : ℕ) (me : Me ℕ View) (k i at : ℕ) (got : List ℕ) → k < n → me.0.half ≡ Reading at got → me.0.slot ≡ k → length got ≡ i → i < 3
      → Allows Rule slots id me (4 * k + 1 + i) (λ x. x) (read me)
  reads slots id me k i at got lt is there count inn s r _ here' _ =
      let v : View = me.0 in
      let ws : List ℕ = words_at k s.words in
      let x : ℕ = get_or s.words (4 * k + 1 + i) 0 in
      let same : x ≡ get_or ws i 0 = word_of k i s.words inn in
      let done = subst (λ (h : Half). HalfDone (gate_at k s.words) ws (words_of (standing (part k r.history))) (r.each_slot k lt).claim.writer id h) is (half_at way meets n s r id k v lt here' there) in
      let more : at ≡ gate_at k s.words → got ++ x ∷ [] ≡ take (length (got ++ x ∷ [])) ws = λ e. subst (λ (y : ℕ). got ++ y ∷ [] ≡ take (length (got ++ y ∷ [])) ws) (sym same) (got_more got ws i count (done.2 e) inn) in (
        halfway k (Reading at (got ++ x ∷ [])) v,
        keeps,
        tt,
        goes_on way meets n s r (4 * k + 1 + i) id k v me.1 lt here' (inr there) (Reading at (got ++ x ∷ [])) (done.0, done.1, more),
        (
          refl,
          λ at' got' is'. let e = sym is ∙ is' in λ j. halfway (sym there j) (Reading (ap ats e j) (ap lists e j ++ x ∷ [])) v,
        ),
      )

  -- what three whole words let a call be answered at the slot k
  abbrev pub Answers : ℕ → List ℕ → Act → Type 0
  Answers k got done = (m : Machine) → got ≡ words_of m.holds → ((w : List ℕ) → m.holds ≡ Some w → meets w) → MayReply (way_at k way) m done × (machine_after m done ≡ m) × StoresMeet meets done × HitFits way.key meets done

  pub kept_may : (k : ℕ) (got words : List ℕ) → k % 2 ≡ 0 → (IsWhole meets got → way.prefers got words ≡ true) → way.prefers zeros words ≡ false → (m : Machine) (o : Option (List ℕ)) → m.holds ≡ o → got ≡ words_of o → ((w : List ℕ) → m.holds ≡ Some w → meets w)
      → MayReply (way_at k way) m (Offered words (store.TheVariants.Kept got))
  kept_may k got words even likes never m None e w lore = absurd (true≢false (sym (likes (inr w)) ∙ (ap (λ z. way.prefers z words) w ∙ never)))
  kept_may k got words even likes never m (Some x) e w lore = (e ∙ ap Some (sym w), even_way way meets n k got words even ∙ likes (inl (subst meets (sym w) (lore x e))))

  pub kept_answers : (k : ℕ) (got words : List ℕ) → k % 2 ≡ 0 → (IsWhole meets got → way.prefers got words ≡ true) → way.prefers zeros words ≡ false → Answers k got (Offered words (store.TheVariants.Kept got))
  kept_answers k got words even likes never = λ m w lore. (kept_may k got words even likes never m m.holds refl w lore, refl, tt, tt)

  pub answer_may : (j : ℕ) (m : Machine) (got : List ℕ) (act : Act) → IsProbeReply way.key got act → (o : Option (List ℕ)) → m.holds ≡ o → got ≡ words_of o → ((w : List ℕ) → m.holds ≡ Some w → meets w) → (meets zeros → ⊥)
      → MayReply (way_at j way) m act × (machine_after m act ≡ m) × StoresMeet meets act × HitFits way.key meets act
  answer_may j m got (Asked k probe.TheVariants.Vacant) is None e w lore law = (e, refl, tt, tt)
  answer_may j m got (Asked k probe.TheVariants.Vacant) is (Some x) e w lore law = absurd (law (subst meets (sym w ∙ is) (lore x e)))
  answer_may j m got (Asked k (probe.TheVariants.Hit words)) is None e w lore law = absurd (is.1 w)
  answer_may j m got (Asked k (probe.TheVariants.Hit words)) is (Some x) e w lore law = let same : x ≡ words = sym (is.0 ∙ w) in
      ((e ∙ ap Some same, ap way.key is.0 ∙ is.2), refl, tt, (ap way.key is.0 ∙ is.2, subst meets same (lore x e)))
  answer_may j m got (Asked k probe.TheVariants.Other) is None e w lore law = absurd (is.0 w)
  answer_may j m got (Asked k probe.TheVariants.Other) is (Some x) e w lore law = ((x, e, λ f. is.1 (ap way.key w ∙ f)), refl, tt, tt)
  answer_may j m got (Asked k probe.TheVariants.Busy) is o e w lore law = absurd is
  answer_may j m got (Offered words r) is o e w lore law = absurd is

  pub looks : (slots id : ℕ) (me : Me ℕ View) (k at : ℕ) (got : List ℕ) (busy done : Act) → Answers k got done → k < n → length me.0.notes ≡ n → me.0.seated ≡ true
      → me.0.half ≡ Reading at got → me.0.slot ≡ k → length got ≡ 3 → IsBusy busy
      → Allows Rule slots id me (4 * k) (λ x. x) (looked way meets busy done me)
  looks slots id me k at got busy done answers lt room seated is there whole isbusy s r _ here' _ =
      let v : View = me.0 in
      let g : ℕ = gate_at k s.words in
      let ws : List ℕ = words_at k s.words in
      let q = r.each_slot k lt in
      let half = subst (λ (h : Half). HalfDone g ws (words_of (standing (part k r.history))) q.claim.writer id h) is (half_at way meets n s r id k v lt here' there) in
      let even : at % 2 ≡ 0 = half.0.0 in
      let below : at ≤ g = half.0.1 in
      let tell : (x : View) → ((g ≡ at → Ends way k done v x × HitFits way.key meets done) × (g ≢ at → (at < g) × EndsBusy way k busy at g v x)) → looked way meets busy done me g (x, me.1) =
      λ x t. (
        refl,
        λ at' got' is'. let e : Reading at got ≡ Reading at' got' = sym is ∙ is' in
            subst (λ (z : ℕ × ℕ). (g ≡ z.1 → Ends way z.0 done v x × HitFits way.key meets done) × (g ≢ z.1 → (z.1 < g) × EndsBusy way z.0 busy z.1 g v x)) (λ j. (sym there j, ap ats e j)) t,
      ) in
      dite (ℕ_discrete g at)
      (λ (same : g ≡ at).
      let rest : got ≡ words_of (standing (part k r.history)) = half.2 (sym same) ∙ (take_all (length got) ws (omega arith) ∙ q.claim.at_rest (subst (λ z. z % 2 ≡ 0) (sym same) even)) in
      let ok = answers (run fresh (part k r.history)) rest (λ w e. standing-meets meets fresh (part k r.history) q.claim.lore w e (λ e'. absurd (cc))) in
      let c = cause_at way meets n s r id k v lt here' seated in
      let t = stops way meets n s r (4 * k) id k v me.1 lt here' (inr there) seated room done ok.0 ok.1 ok.2 (note k v.notes).low (note k v.notes).high c.0 c.1 in
      (ended k t.0 t.1 v, keeps, tt, t.4, tell (ended k t.0 t.1 v) ((λ _. ((t.0, t.1, refl, t.5), ok.3)), λ ne. absurd (ne same))))
      (λ (other : g ≢ at).
      let t = stops_busy way meets n s r (4 * k) id k v me.1 lt here' (inr there) seated room busy isbusy at g below refl in
      (t.0, keeps, tt, t.1, tell t.0 ((λ same. absurd (other same)), λ _. (omega arith, t.2))))

  pub looks_probe : (slots id : ℕ) (me : Me ℕ View) (k at : ℕ) (got : List ℕ) (busy done : Act) → (meets zeros → ⊥) → k < n → length me.0.notes ≡ n → me.0.seated ≡ true
      → me.0.half ≡ Reading at got → me.0.slot ≡ k → length got ≡ 3 → IsBusy busy → IsProbeReply way.key got done
      → Allows Rule slots id me (4 * k) (λ x. x) (looked way meets busy done me)
  looks_probe slots id me k at got busy done law lt room seated is there whole isbusy answer =
      looks slots id me k at got busy done (λ m e lore. answer_may k m got done answer m.holds refl e lore law) lt room seated is there whole isbusy

  pub looks_store : (slots id : ℕ) (me : Me ℕ View) (k at : ℕ) (got words : List ℕ) (busy done : Act) → k % 2 ≡ 0 → (IsWhole meets got → way.prefers got words ≡ true) → way.prefers zeros words ≡ false → k < n → length me.0.notes ≡ n → me.0.seated ≡ true
      → me.0.half ≡ Reading at got → me.0.slot ≡ k → length got ≡ 3 → IsBusy busy → done ≡ Offered words (store.TheVariants.Kept got)
      → Allows Rule slots id me (4 * k) (λ x. x) (looked way meets busy done me)
  looks_store slots id me k at got words busy done even likes never lt room seated is there whole isbusy act =
      looks slots id me k at got busy done (subst (Answers k got) (sym act) (kept_answers k got words even likes never)) lt room seated is there whole isbusy
