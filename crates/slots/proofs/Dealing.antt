-- The table at the start, a seat that is dealt, and a seat that is told of another's calls.
use Rattle.std.proofs.Common.{◌≡◌, ◌≢◌, ◌⊎◌, ℕ, zero, suc, ◌+◌, ◌*◌, ◌<◌, if◌then◌else◌, nat_lt, Bool, true, false, true≢false, List, [], ◌∷◌, ◌++◌, length, set, get_or, map, replicate, Some, refl, sym, ap, ◌∙◌, subst, ⊎_elim, inl, inr, arith, le_refl, length-set, length-append, ltb-true}
use Rattle.slots.proofs.Common.{length-replicate, Me, opening, Splits, Joins, at_set, at_map, set_again, Call, Note, Idle, View, Way, standing, calls_by, part, way_at, words_of, Glance, Fits, Had, Passed, Claims, StillRead, EachSeat, SlotHolds, note, blank, glance, gate_at, words_at, TableHolds, StartsWith, dealer, after_dealing, dealt, nobody, after_telling, TableId, Seat, IsSeatOf, IsNew, AllNew}
use mathlib.Core.Option as option
use mathlib.Core.List.{map-append}
use lib.ListN.{get_elem?}
use lib.Seq.{map-set}
use Rattle.std.specs.Prelude.{slice_get, All}
use Rattle.std.proofs.lemmas.Option.{slice_get-get_or}
use Rattle.slots.proofs.TableStep.{idle_slot}
use Rattle.slots.proofs.Histories.{calls-front}
use Rattle.slots.proofs.Order.{both_begin}
use Rattle.slots.proofs.Seats.{inside, snoc_at, each_more}
use Rattle.slots.proofs.SlotKeeps.{HalfDone, spent_kept}

fits_new : (history : List Call) (seat : ℕ) (v : View) → calls_by seat history ≡ [] → Fits history seat (dealt v)
fits_new history seat v none = record { seen = (history, refl); mine = none; once = refl }

had_none : (gate : ℕ) → Had gate blank
had_none gate = (le_refl 0, omega arith)

note_blanks : (k n : ℕ) → note k (replicate n blank) ≡ blank
note_blanks k zero = refl
note_blanks zero (suc n) = refl
note_blanks (suc k) (suc n) = note_blanks k n

blanked_length : (l : List Note) → length (map (λ _. blank) l) ≡ length l
blanked_length [] = refl
blanked_length (x ∷ xs) = ap suc (blanked_length xs)

note_blanked : (k : ℕ) (l : List Note) → note k (map (λ _. blank) l) ≡ blank
note_blanked k [] = refl
note_blanked zero (x ∷ xs) = refl
note_blanked (suc k) (x ∷ xs) = note_blanked k xs

module _ (way : Way) (meets : List ℕ → Type 0) where
  -- a seat that has seen nothing and has nothing half done
  new_had : (gate k : ℕ) (v : View) → note k v.notes ≡ blank → (glance k v).seated ≡ true → Had gate (glance k v).note
  new_had gate k v bare _ = subst (Had gate) (sym bare) (had_none gate)

  new_half : (gate : ℕ) (words holds : List ℕ) (writer seat k : ℕ) (v : View) → v.half ≡ Idle → HalfDone gate words holds writer seat (glance k v).half
  new_half gate words holds writer seat k v idle = subst (HalfDone gate words holds writer seat) (sym (idle_slot v.slot k v.half idle)) (tt, tt, tt)

  zero_word : (n i : ℕ) → ◌≡◌ {A = ℕ} (get_or (replicate n 0) i 0) 0
  zero_word zero i = refl
  zero_word (suc n) zero = refl
  zero_word (suc n) (suc i) = zero_word n i

  pub opens : (n : ℕ) → TableHolds way meets n (opening (replicate (4 * n) 0) [] (dealer n))
  opens n = record {
    history = [];
    wide = length-replicate (4 * n) 0;
    numbers = λ seat v e. first seat v e;
    each_seat = λ seat v e _. fits seat v e;
    strangers = λ _ _. refl;
    beyond = λ _ _. refl;
    each_slot = λ k lt. let z = zero_word (4 * n) in
        subst (λ (p : ℕ × List ℕ). SlotHolds (way_at k way) meets [] p.0 p.1 (glance k (dealer n) ∷ [])) (λ i. (sym (z (4 * k)) i, sym (z (4 * k + 1)) i ∷ sym (z (4 * k + 2)) i ∷ sym (z (4 * k + 3)) i ∷ [])) (fresh_slot k);
  }
    where
      first : (seat : ℕ) (v : View) → get_elem? (dealer n ∷ []) seat ≡ option.some v → (v.seated ≡ true → v.number ≡ seat) × (0 < v.deals → (seat ≡ 0) × (v.deals ≡ 1))
      first zero v e = subst (λ (w : View). (w.seated ≡ true → w.number ≡ 0) × (0 < w.deals → (◌≡◌ {A = ℕ} 0 0) × (w.deals ≡ 1))) (option.some-injective _ _ e) ((λ _. refl), λ _. (refl, refl))
      first (suc seat) v e = absurd (option.some-ne-none v (sym e))

      fits : (seat : ℕ) (v : View) → get_elem? (dealer n ∷ []) seat ≡ option.some v → Fits [] seat v
      fits zero v e = subst (Fits [] 0) (option.some-injective _ _ e) record { seen = ([], refl); mine = refl; once = refl }
      fits (suc seat) v e = absurd (option.some-ne-none v (sym e))

      alone : (k : ℕ) (P : ℕ → Glance → Type 0) → P 0 (glance k (dealer n)) → EachSeat (glance k (dealer n) ∷ []) P
      alone k P p zero g e = subst (P 0) (option.some-injective _ _ e) p
      alone k P p (suc seat) g e = absurd (option.some-ne-none g (sym e))

      fresh_slot : (k : ℕ) → SlotHolds (way_at k way) meets [] 0 (0 ∷ 0 ∷ 0 ∷ []) (glance k (dealer n) ∷ [])
      fresh_slot k = let half = new_half 0 (0 ∷ 0 ∷ 0 ∷ []) (0 ∷ 0 ∷ 0 ∷ []) 0 0 k (dealer n) refl in record {
        numbers = record {
          counted = refl;
          had = alone k (λ _ g. g.seated ≡ true → Had 0 g.note) (new_had 0 k (dealer n) (note_blanks k n));
          passed = alone k (λ _ g. Passed 0 g.half) half.0;
        };
        claim = record {
          writer = 0;
          at_rest = λ _. refl;
          lore = λ i c e. absurd (option.some-ne-none c (sym e));
          claims = alone k (λ seat g. Claims 0 (0 ∷ 0 ∷ 0 ∷ []) (0 ∷ 0 ∷ 0 ∷ []) 0 seat g.half) half.1;
        };
        reads = record { legal = tt; read = alone k (λ _ g. StillRead 0 (0 ∷ 0 ∷ 0 ∷ []) g.half) half.2 };
      }

  -- the slot, with one seat more
  dealt_slot : (there : Way) (history : List Call) (gate : ℕ) (words : List ℕ) (seats : List Glance) (r : SlotHolds there meets history gate words seats) (id : ℕ) (g new : Glance) → get_elem? seats id ≡ option.some g
      → (new.seated ≡ true → Had gate new.note) → ((writer : ℕ) → HalfDone gate words (words_of (standing history)) writer (length seats) new.half) → SlotHolds there meets history gate words (set seats id g ++ new ∷ [])
  dealt_slot there history gate words seats r id g new at had half = let done = half r.claim.writer in subst (λ (l : List Glance). SlotHolds there meets history gate words (l ++ new ∷ [])) (sym (set_again seats id g at)) record {
    numbers = record {
      counted = r.numbers.counted;
      had = each_more seats new (λ _ g. g.seated ≡ true → Had gate g.note) r.numbers.had had;
      passed = each_more seats new (λ _ g. Passed gate g.half) r.numbers.passed done.0;
    };
    claim = record {
      writer = r.claim.writer;
      at_rest = r.claim.at_rest;
      lore = r.claim.lore;
      claims = each_more seats new (λ seat g. Claims gate words (words_of (standing history)) r.claim.writer seat g.half) r.claim.claims done.1;
    };
    reads = record { legal = r.reads.legal; read = each_more seats new (λ _ g. StillRead gate words g.half) r.reads.read done.2 };
  }

  pub deals : (n id : ℕ) (v : View) → 0 < v.deals → Splits (TableHolds way meets n) id v (after_dealing v) (dealt v)
  deals n id v some s r at =
      let was = (r.numbers id v at).1 some in
      let left : View = after_dealing v in
      let right : View = dealt v in
      let same = length-set s.views id left in
      let long = length-append (set s.views id left) (right ∷ []) in
      let inside' = inside s.views id v at in record {
        history = r.history;
        wide = r.wide;
        numbers = λ j w e. ⊎_elim
            (λ (q : get_elem? (set s.views id left) j ≡ option.some w). ⊎_elim
            (λ (t : (j ≡ id) × (left ≡ w)). subst (λ (z : ℕ × View). (z.1.seated ≡ true → z.1.number ≡ z.0) × (0 < z.1.deals → (z.0 ≡ 0) × (z.1.deals ≡ length (set s.views id left ++ right ∷ [])))) (λ i. (sym t.0 i, t.1 i))
            ((r.numbers id v at).0, λ _. (was.0, (let d = was.1 in omega arith))))
            (λ (t : (j ≢ id) × (get_elem? s.views j ≡ option.some w)). let old = r.numbers j w t.1 in (old.0, λ more. absurd (t.0 ((old.1 more).0 ∙ sym was.0))))
            (at_set s.views id j left w q))
            (λ (t : (j ≡ length (set s.views id left)) × (right ≡ w)). subst (λ (z : View). (z.seated ≡ true → z.number ≡ j) × (0 < z.deals → (j ≡ 0) × (z.deals ≡ length (set s.views id left ++ right ∷ [])))) t.1
            ((λ _. was.1 ∙ (sym same ∙ sym t.0)), λ none. absurd (omega arith)))
            (snoc_at (set s.views id left) right w j e);
        each_seat = λ j w e is. ⊎_elim
            (λ (q : get_elem? (set s.views id left) j ≡ option.some w). ⊎_elim
            (λ (t : (j ≡ id) × (left ≡ w)). subst (λ (z : ℕ × View). z.1.seated ≡ true → Fits r.history z.0 z.1) (λ i. (sym t.0 i, t.1 i)) (λ is'. let f = r.each_seat id v at is' in record { seen = f.seen; mine = f.mine; once = f.once }) is)
            (λ (t : (j ≢ id) × (get_elem? s.views j ≡ option.some w)). r.each_seat j w t.1 is)
            (at_set s.views id j left w q))
            (λ (t : (j ≡ length (set s.views id left)) × (right ≡ w)). subst (λ (z : ℕ × View). Fits r.history z.0 z.1) (λ i. (sym (t.0 ∙ same) i, t.1 i)) (fits_new r.history (length s.views) v (r.strangers (length s.views) (le_refl (length s.views)))))
            (snoc_at (set s.views id left) right w j e);
        strangers = λ j out. r.strangers j (omega arith);
        beyond = r.beyond;
        each_slot = λ k lt. let g : Glance = glance k v in
            let seats : map (glance k) (set s.views id left ++ right ∷ []) ≡ set (map (glance k) s.views) id g ++ glance k right ∷ [] =
            map-append (glance k) (set s.views id left) (right ∷ []) ∙ ap (λ l. l ++ glance k right ∷ []) (map-set (glance k) s.views id left) in
            subst (λ (l : List Glance). SlotHolds (way_at k way) meets (part k r.history) (gate_at k s.words) (words_at k s.words) l) (sym seats)
            (dealt_slot (way_at k way) (part k r.history) (gate_at k s.words) (words_at k s.words) (map (glance k) s.views) (r.each_slot k lt) id g (glance k right) (at_map (glance k) s.views id v at)
            (new_had (gate_at k s.words) k right (note_blanked k v.notes)) (λ writer. new_half (gate_at k s.words) (words_at k s.words) (words_of (standing (part k r.history))) writer (length (map (glance k) s.views)) k right refl));
      }

  either_begins : (history x y : List Call) (b : Bool) → StartsWith history x → StartsWith history y → StartsWith history (if b then y else x)
  either_begins history x y true p q = q
  either_begins history x y false p q = p

  -- the longer beginning of the history has all calls that the shorter one has all of
  longer_once : (history x y : List Call) (seat : ℕ) (b : Bool) → nat_lt (length x) (length y) ≡ b → StartsWith history x → StartsWith history y → calls_by seat x ≡ calls_by seat history
      → calls_by seat (if b then y else x) ≡ calls_by seat history
  longer_once history x y seat false less p q all = all
  longer_once history x y seat true less p q all = ⊎_elim
      (λ (t : StartsWith x y). let e = ap (λ (l : List Call). length l) t.1 in let e' = length-append y t.0 in let small = ltb-true (length x) (length y) less in absurd (omega arith))
      (λ (t : StartsWith y x). calls-front seat history x y t.0 q.0 t.1 q.1 all)
      (both_begin x y p.0 q.0 (sym p.1 ∙ q.1))

  told_fits : (history : List Call) (seat : ℕ) (v w : View) → Fits history seat v → StartsWith history w.seen → Fits history seat (after_telling v w)
  told_fits history seat v w f more = record {
    seen = either_begins history v.seen w.seen (nat_lt (length v.seen) (length w.seen)) f.seen more;
    mine = f.mine;
    once = longer_once history v.seen w.seen seat (nat_lt (length v.seen) (length w.seen)) refl f.seen more (f.once ∙ sym f.mine) ∙ f.mine;
  }

  -- two seats change: one is told, the other is spent
  told_slot : (there : Way) (history : List Call) (gate : ℕ) (words : List ℕ) (seats : List Glance) → SlotHolds there meets history gate words seats → (id other : ℕ) (g spent : Glance)
      → get_elem? seats id ≡ option.some g → spent.seated ≡ false → spent.half ≡ Idle
      → SlotHolds there meets history gate words (set (set seats id g) other spent)
  told_slot there history gate words seats r id other g spent at gone idle = subst (λ (l : List Glance). SlotHolds there meets history gate words (set l other spent)) (sym (set_again seats id g at))
      (spent_kept there meets history gate words seats r other spent gone idle)

  pub tells : (n id : ℕ) (v : View) (other : ℕ) (w : View) → v.seated ≡ true → w.seated ≡ true
      → Joins (TableHolds way meets n) id v other w (after_telling v w) nobody
  tells n id v other w seated seated' s r at apart there' =
      let both : View = after_telling v w in
      let there : get_elem? s.views other ≡ option.some w = ⊎_elim (λ (t : (other ≡ id) × (both ≡ w)). absurd (apart t.0)) (λ (t : (other ≢ id) × (get_elem? s.views other ≡ option.some w)). t.1) (at_set s.views id other both w there') in
      let a = length-set s.views id both in
      let b = length-set (set s.views id both) other nobody in record {
        history = r.history;
        wide = r.wide;
        numbers = λ j x e. ⊎_elim
            (λ (t : (j ≡ other) × (nobody ≡ x)). subst (λ (z : View). (z.seated ≡ true → z.number ≡ j) × (0 < z.deals → (j ≡ 0) × (z.deals ≡ length (set (set s.views id both) other nobody)))) t.1
            ((λ is. absurd (true≢false (sym is))), λ none. absurd (omega arith)))
            (λ (t : (j ≢ other) × (get_elem? (set s.views id both) j ≡ option.some x)). ⊎_elim
            (λ (u : (j ≡ id) × (both ≡ x)). subst (λ (z : ℕ × View). (z.1.seated ≡ true → z.1.number ≡ z.0) × (0 < z.1.deals → (z.0 ≡ 0) × (z.1.deals ≡ length (set (set s.views id both) other nobody)))) (λ i. (sym u.0 i, u.1 i))
            (let old = r.numbers id v at in (old.0, λ some. ((old.1 some).0, (let d = (old.1 some).1 in omega arith)))))
            (λ (u : (j ≢ id) × (get_elem? s.views j ≡ option.some x)). let old = r.numbers j x u.1 in (old.0, λ some. ((old.1 some).0, (let d = (old.1 some).1 in omega arith))))
            (at_set s.views id j both x t.1))
            (at_set (set s.views id both) other j nobody x e);
        each_seat = λ j x e is. ⊎_elim
            (λ (t : (j ≡ other) × (nobody ≡ x)). absurd (true≢false (sym is ∙ ap (λ (z : View). z.seated) (sym t.1))))
            (λ (t : (j ≢ other) × (get_elem? (set s.views id both) j ≡ option.some x)). ⊎_elim
            (λ (u : (j ≡ id) × (both ≡ x)). subst (λ (z : ℕ × View). Fits r.history z.0 z.1) (λ i. (sym u.0 i, u.1 i)) (told_fits r.history id v w (r.each_seat id v at seated) (r.each_seat other w there seated').seen))
            (λ (u : (j ≢ id) × (get_elem? s.views j ≡ option.some x)). r.each_seat j x u.1 is)
            (at_set s.views id j both x t.1))
            (at_set (set s.views id both) other j nobody x e);
        strangers = λ j out. r.strangers j (omega arith);
        beyond = r.beyond;
        each_slot = λ k lt.
            let seats : map (glance k) (set (set s.views id both) other nobody) ≡ set (set (map (glance k) s.views) id (glance k v)) other (glance k nobody) =
            map-set (glance k) (set s.views id both) other nobody ∙ ap (λ l. set l other (glance k nobody)) (map-set (glance k) s.views id both) in
            subst (λ (l : List Glance). SlotHolds (way_at k way) meets (part k r.history) (gate_at k s.words) (words_at k s.words) l) (sym seats)
            (told_slot (way_at k way) (part k r.history) (gate_at k s.words) (words_at k s.words) (map (glance k) s.views) (r.each_slot k lt) id other (glance k v) (glance k nobody)
            (at_map (glance k) s.views id v at) refl (idle_slot 0 k Idle refl));
      }

-- the list of seats, with one more
pub all_new_push : (table : TableId) (xs : List (Seat ℕ View)) (x : Seat ℕ View) → AllNew table xs → IsNew table (length xs) x → AllNew table (xs ++ x ∷ [])
all_new_push table xs x all new k seat e = ⊎_elim (all k seat) (λ (t : (k ≡ length xs) × (x ≡ seat)). subst (λ (z : ℕ × Seat ℕ View). IsNew table z.0 z.1) (λ i. (sym t.0 i, t.1 i)) new) (get_snoc xs k e)
  where
    get_snoc : (l : List (Seat ℕ View)) (j : ℕ) → slice_get (l ++ x ∷ []) j ≡ Some seat → (slice_get l j ≡ Some seat) ⊎ ((j ≡ length l) × (x ≡ seat))
    get_snoc [] zero e = inr (refl, (cc))
    get_snoc [] (suc j) e = absurd (cc)
    get_snoc (y ∷ ys) zero e = inl e
    get_snoc (y ∷ ys) (suc j) e = ⊎_elim (λ t. inl t) (λ t. inr (ap suc t.0, t.1)) (get_snoc ys j e)

pub all_new_none : (table : TableId) → AllNew table []
all_new_none table k seat e = absurd (cc)

-- each seat is one that the table handed out
pub all_seated : (table : TableId) (seats : List (Seat ℕ View)) → AllNew table seats → All (IsSeatOf table) seats
all_seated table seats all k d less = (all k (get_or seats k d) (slice_get-get_or seats k d less)).0

pub new_seat : (table : TableId) (k : ℕ) (v : View) (seat : Seat ℕ View) → seat.table_id ≡ table → seat.me ≡ (dealt v, []) → v.deals ≡ k + 1 → 4 * length v.notes ≡ table.words → IsNew table k seat
new_seat table k v seat same is deals room =
    let now : seat.me.0 ≡ dealt v = ap (λ (z : Me ℕ View). z.0) is in
    let notes : seat.me.0.notes ≡ map (λ _. blank) v.notes = ap (λ (z : View). z.notes) now in (
      (
        (same, ap (λ (z : Me ℕ View). z.1) is, ap (λ (z : View). z.seated) now, ap (λ (z : List Note). 4 * length z) notes ∙ (ap (λ (z : ℕ). 4 * z) (blanked_length v.notes) ∙ room)),
        ap (λ (z : View). z.half) now,
      ),
      ap (λ (z : View). z.number) now ∙ deals,
      ap (λ (z : View). z.seen) now,
      ap (λ (z : View). z.mine) now,
      λ slot. ap (note slot) notes ∙ note_blanked slot v.notes,
    )

-- the seat that was told
pub told_seat : (table : TableId) (a b c : Seat ℕ View) → IsSeatOf table a → IsSeatOf table b → c.table_id ≡ a.table_id → c.me ≡ (after_telling a.me.0 b.me.0, a.me.1) → IsSeatOf table c
told_seat table a b c s t same is =
    let now : c.me.0 ≡ after_telling a.me.0 b.me.0 = ap (λ (z : Me ℕ View). z.0) is in
    let notes : c.me.0.notes ≡ a.me.0.notes = ap (λ (z : View). z.notes) now in (
      (
        same ∙ s.0.0,
        ap (λ (z : Me ℕ View). z.1) is ∙ s.0.1,
        ap (λ (z : View). z.seated) now ∙ s.0.2,
        ap (λ (z : List Note). 4 * length z) notes ∙ s.0.3,
      ),
      ap (λ (z : View). z.half) now ∙ s.1,
    )
