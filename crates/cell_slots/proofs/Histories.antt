-- One history: a call more, a caller more, and what one caller tells another. Nothing here speaks of the words of a slot.
use Rattle.std.proofs.Common.{◌≡◌, ◌≢◌, ℕ, Bool, true, false, true≢false, ltb, if◌then◌else◌, List, [], ◌∷◌, ◌++◌, length, set, refl, sym, ap, ◌∙◌, subst, ⊎_elim, arith, append_assoc, append-nil, length-set, length-append, ◌==◌}
use Rattle.std.specs.Prelude.{◌%◌}
use mathlib.Core.Option.{some, some-ne-none}
use lib.ListN.{get_elem?}
use Rattle.atomic_table.proofs.Lists.{at_set, at_snoc}
use Rattle.slots.specs.declared.calls.Act.{Act}
use Rattle.slots.specs.declared.calls.Call.{Call}
use Rattle.slots.specs.Machine.{Way, fresh, MayReply, run, IsLegal, StoresMeet, call}
use Rattle.slots.specs.Rule.{StartsWith, way_at}
use Rattle.slots.proofs.Histories.{follows-snoc, calls-other, calls-own}
use Rattle.slots.proofs.Seats.{inside, snoc_at}
use Rattle.cell_slots.specs.declared.views.View.{View}
use Rattle.cell_slots.specs.OneHistory.{taking, FitsCaller, OneHistory}
use Rattle.cell_slots.specs.Cell.{newcomer, spent, hearer, told, Makes}

-- a slot of either kind takes what it is offered
either_takes : (b : Bool) → (if b then false else false) ≡ false
either_takes true = refl
either_takes false = refl

pub takes_at : (slot : ℕ) (key : List ℕ → List ℕ) → way_at slot (taking key) ≡ taking key
takes_at slot key = λ i. record { key = key; prefers = λ _ _. either_takes (slot % 2 == 0) i }

longer_starts : (calls a b : List Call) (t : Bool) → StartsWith calls a → StartsWith calls b → StartsWith calls (if t then b else a)
longer_starts calls a b true p q = q
longer_starts calls a b false p q = p

module _ (key : List ℕ → List ℕ) (meets : List ℕ → Type 0) where
  -- the history so far, and the call
  abbrev pub more : List Call → ℕ → ℕ → Act → List Call
  more calls slot by act = calls ++ call slot by act ∷ []

  abbrev pub then_view : List Call → ℕ → ℕ → Act → View → View
  then_view calls slot by act v = record { seated = true; seen = more calls slot by act; mine = v.mine ++ call slot by act ∷ [] }

  others_fit : (calls : List Call) (slot by : ℕ) (act : Act) (j : ℕ) (u : View) → j ≢ by → FitsCaller calls j u → FitsCaller (more calls slot by act) j u
  others_fit calls slot by act j u apart fit seated =
      let old = fit seated in
      let c : Call = call slot by act in
      ((old.0.0 ++ c ∷ [], ap (λ l. l ++ c ∷ []) old.0.1 ∙ append_assoc u.seen old.0.0 (c ∷ [])), calls-other j calls c (λ e. apart (sym e)) ∙ old.1)

  -- a call with a reply that it may have
  pub adds : (slot by : ℕ) (act : Act) (v : View) (calls : List Call) (views : List View) → OneHistory key meets calls views → get_elem? views by ≡ some v → v.seated ≡ true
      → MayReply (taking key) (run fresh calls) act → StoresMeet meets act
      → OneHistory key meets (more calls slot by act) (set views by (then_view calls slot by act v)) × Makes key slot by act v (then_view calls slot by act v)
  adds slot by act v calls views h at seated may is =
      let c : Call = call slot by act in
      let w = then_view calls slot by act v in
      let old = h.callers by v at seated in
      let once = calls-own slot by by refl calls act ∙ ap (λ l. l ++ c ∷ []) old.1 in
      let legal = follows-snoc (taking key) fresh calls c h.legal may in
      let rule : OneHistory key meets (more calls slot by act) (set views by w) = record {
        legal = legal;
        lore = λ k d e. ⊎_elim (h.lore k d) (λ (t : c ≡ d). subst (λ (z : Call). StoresMeet meets z.act) t is) (at_snoc calls c d k e);
        callers = λ j u e. ⊎_elim
            (λ (t : (j ≡ by) × (w ≡ u)). subst (λ (p : ℕ × View). FitsCaller (more calls slot by act) p.0 p.1) (λ i. (sym t.0 i, t.1 i)) (λ _. (([], sym (append-nil (more calls slot by act))), once)))
            (λ (t : (j ≢ by) × (get_elem? views j ≡ some u)). others_fit calls slot by act j u t.0 (h.callers j u t.1))
            (at_set views by j w u e);
        no_others = λ j long. let below = inside views by v at in let len = length-set views by w in
            calls-other j calls c (λ e. omega arith) ∙ h.no_others j (omega arith);
      } in (
        rule,
        (
          refl,
          record {
            same = refl;
            call = record {
              between = old.0.0;
              seen = ap (λ l. l ++ c ∷ []) old.0.1;
              legal = subst (λ (way : Way). IsLegal way (more calls slot by act)) (sym (takes_at slot key)) legal;
              mine = refl;
              once = once;
            };
          },
        ),
      )

  -- a new caller
  pub arrives : (calls : List Call) (views : List View) → OneHistory key meets calls views → OneHistory key meets calls (views ++ newcomer ∷ [])
  arrives calls views h = record {
    legal = h.legal;
    lore = h.lore;
    callers = λ j u e. ⊎_elim (h.callers j u)
        (λ (t : (j ≡ length views) × (newcomer ≡ u)). subst (FitsCaller calls j) t.1 (λ _. ((calls, refl), h.no_others j (omega arith))))
        (snoc_at views newcomer u j e);
    no_others = λ j long. let len = length-append views (newcomer ∷ []) in h.no_others j (omega arith);
  }

  -- the first caller of a vacant slot
  pub begins : OneHistory key meets [] (newcomer ∷ [])
  begins = record {
    legal = tt;
    lore = λ k c e. absurd (some-ne-none c (sym e));
    callers = λ j u e. ⊎_elim (λ (t : get_elem? {A = View} [] j ≡ some u). absurd (some-ne-none u (sym t)))
        (λ (t : (j ≡ 0) × (newcomer ≡ u)). subst (FitsCaller [] j) t.1 (λ _. (([], refl), refl)))
        (snoc_at [] newcomer u j e);
    no_others = λ j long. refl;
  }

  -- what a caller has seen goes to a new one, and the caller is spent
  pub forks : (by : ℕ) (v : View) (calls : List Call) (views : List View) → OneHistory key meets calls views → get_elem? views by ≡ some v
      → OneHistory key meets calls (set views by spent ++ hearer v ∷ [])
  forks by v calls views h at = let len = length-set views by spent in record {
    legal = h.legal;
    lore = h.lore;
    callers = λ j u e. ⊎_elim
        (λ (q : get_elem? (set views by spent) j ≡ some u). ⊎_elim
        (λ (t : (j ≡ by) × (spent ≡ u)). λ sits. absurd (true≢false (sym sits ∙ ap (λ (z : View). z.seated) (sym t.1))))
        (λ (t : (j ≢ by) × (get_elem? views j ≡ some u)). h.callers j u t.1)
        (at_set views by j spent u q))
        (λ (t : (j ≡ length (set views by spent)) × (hearer v ≡ u)). subst (FitsCaller calls j) t.1 (λ sits. ((h.callers by v at sits).0, h.no_others j (omega arith))))
        (snoc_at (set views by spent) (hearer v) u j e);
    no_others = λ j long. let more = length-append (set views by spent) (hearer v ∷ []) in h.no_others j (omega arith);
  }

  -- one caller is told what another has seen, and the other is spent
  pub tells : (by : ℕ) (v : View) (other : ℕ) (w : View) (calls : List Call) (views : List View) → v.seated ≡ true → w.seated ≡ true → OneHistory key meets calls views
      → get_elem? views by ≡ some v → ¬ (other ≡ by) → get_elem? (set views by (told v w)) other ≡ some w → OneHistory key meets calls (set (set views by (told v w)) other spent)
  tells by v other w calls views seated also h at apart there =
      let theirs = ⊎_elim (λ (t : (other ≡ by) × (told v w ≡ w)). absurd (apart t.0)) (λ (t : (other ≢ by) × (get_elem? views other ≡ some w)). h.callers other w t.1 also)
      (at_set views by other (told v w) w there) in
      let mine = h.callers by v at seated in
      let both : FitsCaller calls by (told v w) = λ _. (longer_starts calls v.seen w.seen (ltb (length v.seen) (length w.seen)) mine.0 theirs.0, mine.1) in
      record {
        legal = h.legal;
        lore = h.lore;
        callers = λ j u e. ⊎_elim
            (λ (t : (j ≡ other) × (spent ≡ u)). λ sits. absurd (true≢false (sym sits ∙ ap (λ (z : View). z.seated) (sym t.1))))
            (λ (t : (j ≢ other) × (get_elem? (set views by (told v w)) j ≡ some u)). ⊎_elim
            (λ (q : (j ≡ by) × (told v w ≡ u)). subst (λ (p : ℕ × View). FitsCaller calls p.0 p.1) (λ i. (sym q.0 i, q.1 i)) both)
            (λ (q : (j ≢ by) × (get_elem? views j ≡ some u)). h.callers j u q.1)
            (at_set views by j (told v w) u t.1))
            (at_set (set views by (told v w)) other j spent u e);
        no_others = λ j long. let a = length-set views by (told v w) in let b = length-set (set views by (told v w)) other spent in h.no_others j (omega arith);
      }
