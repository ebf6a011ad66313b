-- Each kind of step keeps the rule of its slot: all three passes.
use Rattle.std.proofs.Common.{◌≡◌, ◌≢◌, ℕ, ◌+◌, ◌/◌, ◌%◌, ◌<◌, ◌≤◌, true, false, true≢false, List, [], ◌∷◌, ◌++◌, length, set, refl, sym, ap, ◌∙◌, subst, ⊎_elim, arith, le_refl}
use Rattle.slots.proofs.Common.{take_all, at_snoc, Call, Offered, Stored, Half, Idle, Writing, Way, Machine, fresh, machine_after, MayReply, run, IsLegal, stores, standing, StoresMeet, Yields, words_of, Glance, Had, Passed, Claims, StillRead, SlotHolds}
use mathlib.Core.Option as option
use lib.ListN.{get_elem?}
use Rattle.slots.proofs.Histories.{run-snoc, follows-snoc, standing-meets}
use Rattle.slots.proofs.GatePass.{higher, gate_keeps}
use Rattle.slots.proofs.ClaimPass.{put_more, yields_may, claim_keeps}
use Rattle.slots.proofs.ReadsPass.{reads_keep}

-- what the three passes say of a half-done call
abbrev pub HalfDone : ℕ → List ℕ → List ℕ → ℕ → ℕ → Half → Type 0
HalfDone gate words holds writer seat h = Passed gate h × Claims gate words holds writer seat h × StillRead gate words h

module _ (way : Way) (meets : List ℕ → Type 0) where
  -- a step of one seat keeps the rule, where it keeps each pass
  moved : (history : List Call) (gate : ℕ) (words : List ℕ) (seats : List Glance) (r : SlotHolds way meets history gate words seats) (id : ℕ) (new : Glance) (history' : List Call) (gate' : ℕ) (words' : List ℕ) (writer' : ℕ)
      → IsLegal way history' → stores history' ≡ gate' / 2 → (gate' % 2 ≡ 0 → words' ≡ words_of (standing history')) → ((k : ℕ) (c : Call) → get_elem? history' k ≡ option.some c → StoresMeet meets c.act)
      → (new.seated ≡ true → Had gate' new.note) → HalfDone gate' words' (words_of (standing history')) writer' id new.half
      → gate ≤ gate' → (gate % 2 ≡ 0 → gate' ≡ gate → words' ≡ words) → ((j : ℕ) → j ≢ id → gate % 2 ≡ 1 → j ≡ r.claim.writer → (gate' ≡ gate) × (words' ≡ words) × (writer' ≡ r.claim.writer) × (words_of (standing history') ≡ words_of (standing history)))
      → SlotHolds way meets history' gate' words' (set seats id new)
  moved history gate words seats r id new history' gate' words' writer' legal counted rest lore had half more even odd = record {
    numbers = gate_keeps history gate seats r.numbers id new history' gate' counted more had half.0;
    claim = claim_keeps meets history gate words seats r.claim id new history' gate' words' writer' rest lore half.1 odd;
    reads = reads_keep way history gate words seats r.numbers r.reads id new history' gate' words' legal half.2 more even;
  }

  -- a spent seat keeps the rule
  pub spent_kept : (history : List Call) (gate : ℕ) (words : List ℕ) (seats : List Glance) → SlotHolds way meets history gate words seats → (other : ℕ) (spent : Glance) → spent.seated ≡ false → spent.half ≡ Idle
      → SlotHolds way meets history gate words (set seats other spent)
  spent_kept history gate words seats r other spent gone idle = moved history gate words seats r other spent history gate words r.claim.writer r.reads.legal r.numbers.counted r.claim.at_rest r.claim.lore
      (λ is. absurd (true≢false (sym is ∙ gone))) (subst (HalfDone gate words (words_of (standing history)) r.claim.writer other) (sym idle) (tt, tt, tt))
      (le_refl gate) (λ _ _. refl) (λ _ _ _ _. (refl, refl, refl, refl))

  -- a call goes on, and no word changes
  pub half_kept : (history : List Call) (gate : ℕ) (words : List ℕ) (seats : List Glance) (r : SlotHolds way meets history gate words seats) (id : ℕ) (old : Glance) → get_elem? seats id ≡ option.some old
      → (h : Half) → HalfDone gate words (words_of (standing history)) r.claim.writer id h → SlotHolds way meets history gate words (set seats id record { seated = old.seated; note = old.note; half = h })
  half_kept history gate words seats r id old at h done =
      moved history gate words seats r id record { seated = old.seated; note = old.note; half = h } history gate words r.claim.writer r.reads.legal r.numbers.counted r.claim.at_rest r.claim.lore (r.numbers.had id old at) done
      (le_refl gate) (λ _ _. refl) (λ _ _ _ _. (refl, refl, refl, refl))

  -- a call ends, and no word changes
  pub call_kept : (history : List Call) (gate : ℕ) (words : List ℕ) (seats : List Glance) (r : SlotHolds way meets history gate words seats) (id : ℕ) (old : Glance) → get_elem? seats id ≡ option.some old
      → (c : Call) → MayReply way (run fresh history) c.act → machine_after (run fresh history) c.act ≡ run fresh history → StoresMeet meets c.act → (low high : ℕ) → low ≤ high → high ≤ gate
      → SlotHolds way meets (history ++ c ∷ []) gate words (set seats id record { seated = old.seated; note = record { low = low; high = high }; half = Idle })
  call_kept history gate words seats r id old at c may same ok low high a b =
      let now = run-snoc fresh history c ∙ same in
      moved history gate words seats r id record { seated = old.seated; note = record { low = low; high = high }; half = Idle } (history ++ c ∷ []) gate words r.claim.writer
      (follows-snoc way fresh history c r.reads.legal may)
      (ap (λ (m : Machine). m.stores) now ∙ r.numbers.counted)
      (λ even. r.claim.at_rest even ∙ ap (λ (m : Machine). words_of m.holds) (sym now))
      (λ i d is. ⊎_elim (r.claim.lore i d) (λ (t : c ≡ d). subst (λ (z : Call). StoresMeet meets z.act) t ok) (at_snoc history c d i is))
      (λ _. (a, b)) (tt, tt, tt)
      (le_refl gate) (λ _ _. refl) (λ _ _ _ _. (refl, refl, refl, ap (λ (m : Machine). words_of m.holds) now))

  -- the claim is taken
  pub claim_kept : (history : List Call) (gate : ℕ) (words : List ℕ) (seats : List Glance) (r : SlotHolds way meets history gate words seats) (id : ℕ) (old : Glance) → get_elem? seats id ≡ option.some old → gate % 2 ≡ 0 → (stood : List ℕ) → (length stood ≡ 3 → stood ≡ words_of (standing history))
      → SlotHolds way meets history (gate + 1) words (set seats id record { seated = old.seated; note = old.note; half = Writing (gate + 1) stood [] })
  claim_kept history gate words seats r id old at even stood was = let count = r.numbers.counted in
      moved history gate words seats r id record { seated = old.seated; note = old.note; half = Writing (gate + 1) stood [] } history (gate + 1) words id r.reads.legal (omega arith)
      (λ (e : (gate + 1) % 2 ≡ 0). absurd (omega arith)) r.claim.lore
      (λ is. higher gate (gate + 1) (omega arith) old.note (r.numbers.had id old at is)) (tt, (omega arith, refl, refl, refl, was), tt)
      (omega arith) (λ _ is. absurd (omega arith)) (λ j _ odd _. absurd (omega arith))

  -- a word is written under the claim
  pub put_kept : (history : List Call) (gate : ℕ) (words : List ℕ) (seats : List Glance) (r : SlotHolds way meets history gate words seats) (id : ℕ) (old : Glance) → get_elem? seats id ≡ option.some old
      → (at : ℕ) (stood put : List ℕ) (word : ℕ) → HalfDone gate words (words_of (standing history)) r.claim.writer id (Writing at stood put) → length put < length words
      → SlotHolds way meets history gate (set words (length put) word) (set seats id record { seated = old.seated; note = old.note; half = Writing at stood (put ++ word ∷ []) })
  put_kept history gate words seats r id old here at stood put word mine room = let odd : gate % 2 ≡ 1 = subst (λ (z : ℕ). z % 2 ≡ 1) mine.1.1 mine.1.0 in
      moved history gate words seats r id record { seated = old.seated; note = old.note; half = Writing at stood (put ++ word ∷ []) } history gate (set words (length put) word) r.claim.writer r.reads.legal r.numbers.counted
      (λ (e : gate % 2 ≡ 0). absurd (omega arith)) r.claim.lore
      (r.numbers.had id old here) (tt, (mine.1.0, mine.1.1, mine.1.2, put_more put words word mine.1.3 room, mine.1.4), tt)
      (le_refl gate) (λ (e : gate % 2 ≡ 0) _. absurd (omega arith)) (λ j apart _ is. absurd (apart (is ∙ sym mine.1.2)))

  -- the store ends
  pub end_kept : (history : List Call) (gate : ℕ) (words : List ℕ) (seats : List Glance) (r : SlotHolds way meets history gate words seats) (id : ℕ) (old : Glance) → get_elem? seats id ≡ option.some old
      → (at : ℕ) (stood put : List ℕ) → HalfDone gate words (words_of (standing history)) r.claim.writer id (Writing at stood put) → Yields meets way stood put → length put ≡ length words → meets put → (c : Call) → c.act ≡ Offered put Stored → (low high : ℕ) → low ≤ high → high ≤ gate
      → SlotHolds way meets (history ++ c ∷ []) (gate + 1) words (set seats id record { seated = old.seated; note = record { low = low; high = high }; half = Idle })
  end_kept history gate words seats r id old here at stood put mine yields full ok c is low high a b =
      let now : run fresh (history ++ c ∷ []) ≡ machine_after (run fresh history) (Offered put Stored) = run-snoc fresh history c ∙ ap (machine_after (run fresh history)) is in
      let odd : gate % 2 ≡ 1 = subst (λ (z : ℕ). z % 2 ≡ 1) mine.1.1 mine.1.0 in let count = r.numbers.counted in
      let whole : put ≡ words = mine.1.3 ∙ take_all (length put) words (omega arith) in
      let more : stores (history ++ c ∷ []) ≡ stores history + 1 = ap (λ (m : Machine). m.stores) now in
      moved history gate words seats r id record { seated = old.seated; note = record { low = low; high = high }; half = Idle } (history ++ c ∷ []) (gate + 1) words r.claim.writer
      (follows-snoc way fresh history c r.reads.legal (subst (MayReply way (run fresh history)) (sym is) (yields_may meets way stood put (run fresh history) yields mine.1.4 (λ w e. standing-meets meets fresh history r.claim.lore w e (λ e'. absurd (cc))))))
      (omega arith)
      (λ _. sym whole ∙ ap (λ (m : Machine). words_of m.holds) (sym now))
      (λ i d at'. ⊎_elim (r.claim.lore i d) (λ (t : c ≡ d). subst (λ (z : Call). StoresMeet meets z.act) t (subst (StoresMeet meets) (sym is) ok)) (at_snoc history c d i at'))
      (λ _. (a, omega arith)) (tt, tt, tt)
      (omega arith) (λ _ same. absurd (omega arith)) (λ j apart _ same. absurd (apart (same ∙ sym mine.1.2)))
