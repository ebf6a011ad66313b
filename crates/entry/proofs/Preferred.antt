-- Which of two packings is preferred.
use Rattle.std.proofs.Common.{◌≡◌, ℕ, Some, ◌<◌, ◌↔◌, Bool, true, false, ◌&&◌, if◌then◌else◌, nat_lt, List, IsTrue, inl, inr, refl, sym, ◌∙◌, subst}
use Rattle.entry.proofs.Common.{Decides, bytes_eq, false≢true, same_Some, Decides-and, bytes_eq-Decides, Entry, key_words, Bounds, upto_byte, Packing, weight, SaysAll, ArePreferred, entry_in, is_packing, says_all, mate_prefers}
use Rattle.entry.proofs.Questions.{one_entry, same_question, same_key}
use Rattle.entry.proofs.Decided.{le_decides, lt_decides, of_decides, packing_decides}

pub preferred_same : (b : Bool) (r e : Entry) (old new : List ℕ) → Packing r old → Packing e new → key_words old ≡ key_words new → (IsTrue b ↔ SaysAll r.interval e.interval) → IsTrue b ↔ ArePreferred old new
preferred_same b r e old new p q k h = (
  λ t. record { stands = r; comes = e; old_packing = p; new_packing = q; preferred = inl (same_question r e old new p q k, h.0 t) },
  λ w.
      let x = one_entry w.stands r old w.old_packing p in
      let y = one_entry w.comes e new w.new_packing q in
      elim w.preferred [
        | inl s ↦ h.1 (subst (λ (z : Entry × Entry). SaysAll z.0.interval z.1.interval) (λ i. (x i, y i)) s.1)
        | inr s ↦ absurd (s.0 (same_question w.stands w.comes old new w.old_packing w.new_packing k))
      ],
)

pub preferred_other : (b : Bool) (r e : Entry) (old new : List ℕ) → Packing r old → Packing e new → (key_words old ≡ key_words new → ⊥) → (IsTrue b ↔ (weight e.interval < weight r.interval)) → IsTrue b ↔ ArePreferred old new
preferred_other b r e old new p q k h = (
  λ t. record { stands = r; comes = e; old_packing = p; new_packing = q; preferred = inr (λ same. k (same_key r e old new p q same), h.0 t) },
  λ w.
      let x = one_entry w.stands r old w.old_packing p in
      let y = one_entry w.comes e new w.new_packing q in
      elim w.preferred [
        | inl s ↦ absurd (k (same_key w.stands w.comes old new w.old_packing w.new_packing s.0))
        | inr s ↦ h.1 (subst (λ (z : Entry × Entry). weight z.1.interval < weight z.0.interval) (λ i. (x i, y i)) s.1)
      ],
)

-- ---- by the intervals that were read of the words

module _ (old new : List ℕ) (i j : Bounds) (of_old : (e : Entry) → Packing e old → Some i ≡ Some e.interval) (of_new : (e : Entry) → Packing e new → Some j ≡ Some e.interval) where
  read_of : (P : Bounds → Bounds → Type 0) (b : Bool) (r e : Entry) → Packing r old → Packing e new → IsTrue b ↔ P i j → IsTrue b ↔ P r.interval e.interval
  read_of P b r e p q says = subst (λ (z : Bounds × Bounds). IsTrue b ↔ P z.0 z.1) (λ k. (same_Some _ _ (of_old r p) k, same_Some _ _ (of_new e q) k)) says

  pub stays_same : (b : Bool) (r e : Entry) → Packing r old → Packing e new → key_words old ≡ key_words new → IsTrue b ↔ SaysAll i j → IsTrue b ↔ ArePreferred old new
  stays_same b r e p q same says = preferred_same b r e old new p q same (read_of SaysAll b r e p q says)

  pub stays_other : (b : Bool) (r e : Entry) → Packing r old → Packing e new → (key_words old ≡ key_words new → ⊥) → IsTrue b ↔ (weight j < weight i) → IsTrue b ↔ ArePreferred old new
  stays_other b r e p q other more = preferred_other b r e old new p q other (read_of (λ x y. weight y < weight x) b r e p q more)

-- ---- the test

guarded : (x y : Bool) (P : Type 0) → (x ≡ false → P → ⊥) → (x ≡ true → Decides y P) → Decides (x && y) P
guarded true y P none some = some refl
guarded false y P none some = (λ e. absurd (false≢true e), λ p. absurd (none refl p))

either : (t a b : Bool) (P : Type 0) → (t ≡ true → Decides a P) → (t ≡ false → Decides b P) → Decides (if t then a else b) P
either true a b P f g = f refl
either false a b P f g = g refl

says_decides : (i j : Bounds) → Decides (says_all i j) (SaysAll i j)
says_decides i j =
    let d = Decides-and _ _ (le_decides j.below i.below) (le_decides (upto_byte i.upto) (upto_byte j.upto)) in
    (λ e. let all = d.0 e in record { below = all.0; upto = all.1 }, λ s. d.1 (s.below, s.upto))

-- the test answers what is preferred
pub mate_decides : (old new : List ℕ) → Decides (mate_prefers old new) (ArePreferred old new)
mate_decides old new =
    let r = entry_in old in
    let e = entry_in new in
    let keys = bytes_eq-Decides (key_words old) (key_words new) in
    guarded (is_packing old) _ (ArePreferred old new) (λ f w. false≢true (sym f ∙ (packing_decides old).1 (w.stands, w.old_packing))) (λ t.
    guarded (is_packing new) _ (ArePreferred old new) (λ f w. false≢true (sym f ∙ (packing_decides new).1 (w.comes, w.new_packing))) (λ u.
    let p = (of_decides r old).0 t in
    let q = (of_decides e new).0 u in
    either (bytes_eq (key_words old) (key_words new)) (says_all r.interval e.interval) (nat_lt (weight e.interval) (weight r.interval)) (ArePreferred old new)
    (λ k. preferred_same (says_all r.interval e.interval) r e old new p q (keys.0 k) (says_decides r.interval e.interval))
    (λ k. preferred_other (nat_lt (weight e.interval) (weight r.interval)) r e old new p q (λ same. false≢true (sym k ∙ keys.1 same)) (lt_decides (weight e.interval) (weight r.interval)))))
