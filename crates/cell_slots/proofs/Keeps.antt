-- Each step of a slot's cell keeps its one history.
use Rattle.std.proofs.Common.{◌≡◌, ℕ, Bool, true, false, true≢false, nat_eq, if◌then◌else◌, List, [], ◌∷◌, set, Some, refl, sym, ap, ◌∙◌, subst}
use lib.Pointwise.{pointwise, bytes_decides}
use Rattle.crossbeam_utils.specs.Register.{Admits, Turns, Forks, Merges}
use Rattle.slots.specs.declared.calls.Probe.TheVariants.{Hit, Vacant, Other}
use Rattle.slots.specs.declared.calls.Store.TheVariants.{Stored}
use Rattle.slots.specs.declared.calls.Act.TheVariants.{Asked, Offered}
use Rattle.slots.specs.Machine.{Way, Machine, call, fresh, machine_after, MayReply, run, StoresMeet}
use Rattle.slots.specs.Rule.{words_of}
use Rattle.slots.specs.Steps.{IsProbeReply, HitFits}
use Rattle.slots.proofs.Histories as calls
use Rattle.slots.proofs.ReadSteps.{answer_may}
use Rattle.cell_slots.specs.declared.views.View.{View}
use Rattle.cell_slots.specs.OneHistory.{taking}
use Rattle.cell_slots.specs.Cell.{newcomer, spent, hearer, told, CellHolds, reply, Probes, Stores}
use Rattle.cell_slots.proofs.Histories as histories

-- the reply is the answer that the words give
answers : (key : List ℕ → List ℕ) (k x : List ℕ) → IsProbeReply key x (Asked k (reply key k x))
answers key k x = go (pointwise nat_eq x (0 ∷ 0 ∷ 0 ∷ [])) (pointwise nat_eq (key x) k) refl refl
  where
    go : (b c : Bool) → pointwise nat_eq x (0 ∷ 0 ∷ 0 ∷ []) ≡ b → pointwise nat_eq (key x) k ≡ c → IsProbeReply key x (Asked k (if b then Vacant else (if c then Hit x else Other)))
    go true c e f = (bytes_decides x (0 ∷ 0 ∷ 0 ∷ [])).0 e
    go false true e f = (refl, (λ is. true≢false (sym ((bytes_decides x (0 ∷ 0 ∷ 0 ∷ [])).1 is) ∙ e)), (bytes_decides (key x) k).0 f)
    go false false e f = ((λ is. true≢false (sym ((bytes_decides x (0 ∷ 0 ∷ 0 ∷ [])).1 is) ∙ e)), λ is. true≢false (sym ((bytes_decides (key x) k).1 is) ∙ f))

module _ (key : List ℕ → List ℕ) (meets : List ℕ → Type 0) where
  abbrev Rule : List ℕ → List View → Type 0
  Rule = CellHolds key meets

  -- a probe that finds the words x
  probes_at : (slot : ℕ) (k x : List ℕ) (m : Machine) → ¬ meets (0 ∷ 0 ∷ 0 ∷ []) → x ≡ words_of m.holds → ((w : List ℕ) → m.holds ≡ Some w → meets w)
      → MayReply (taking key) m (Asked k (reply key k x)) × (machine_after m (Asked k (reply key k x)) ≡ m) × StoresMeet meets (Asked k (reply key k x)) × HitFits key meets (Asked k (reply key k x))
  probes_at slot k x m zeros left stands =
      let may = answer_may (taking key) meets 0 slot m x (Asked k (reply key k x)) (answers key k x) m.holds refl left stands zeros in
      (subst (λ (way : Way). MayReply way m (Asked k (reply key k x))) (histories.takes_at slot key) may.0, may.1, may.2, may.3)

  probes_by : (slot by : ℕ) (k : List ℕ) (v : View) → ¬ meets (0 ∷ 0 ∷ 0 ∷ []) → v.seated ≡ true → Turns Rule by v (λ x. x) (Probes key meets slot by k)
  probes_by slot by k v zeros seated x views h at =
      let m : Machine = run fresh h.calls in
      let act = Asked k (reply key k x) in
      let may = probes_at slot k x m zeros h.left (λ w e. calls.standing-meets meets fresh h.calls h.history.lore w e (λ e'. absurd (cc))) in
      let made = histories.adds key meets slot by act v h.calls views h.history at seated may.0 may.2 in
      let kept : Rule x (set views by (histories.then_view key meets h.calls slot by act v)) = record {
        calls = histories.more key meets h.calls slot by act;
        history = made.0;
        left = h.left ∙ ap (λ (z : Machine). words_of z.holds) (sym (calls.run-snoc fresh h.calls (call slot by act) ∙ may.1));
      } in
      (histories.then_view key meets h.calls slot by act v, kept, (made.1, may.3))

  -- the pass has the number that the call picked, and the call the slot's
  pub probes : (pass by told slot : ℕ) (k : List ℕ) (v : View) → pass ≡ by → slot ≡ told → ¬ meets (0 ∷ 0 ∷ 0 ∷ []) → v.seated ≡ true → Turns Rule pass v (λ x. x) (Probes key meets told by k)
  probes pass by told slot k v is _ zeros seated = subst (λ (n : ℕ). Turns Rule n v (λ x. x) (Probes key meets told by k)) (sym is) (probes_by told by k v zeros seated)

  stores_by : (slot by : ℕ) (v : View) (y : List ℕ) → meets y → v.seated ≡ true → Turns Rule by v (λ _. y) (Stores key slot by)
  stores_by slot by v y may seated x views h at =
      let act = Offered y Stored in
      let made = histories.adds key meets slot by act v h.calls views h.history at seated (λ r e. refl) may in
      let kept : Rule y (set views by (histories.then_view key meets h.calls slot by act v)) = record {
        calls = histories.more key meets h.calls slot by act;
        history = made.0;
        left = ap (λ (z : Machine). words_of z.holds) (sym (calls.run-snoc fresh h.calls (call slot by act)));
      } in
      (histories.then_view key meets h.calls slot by act v, kept, made.1)

  pub stores : (pass by slot : ℕ) (v : View) (y : List ℕ) → pass ≡ by → meets y → v.seated ≡ true → Turns Rule pass v (λ _. y) (Stores key slot by)
  stores pass by slot v y is may seated = subst (λ (n : ℕ). Turns Rule n v (λ _. y) (Stores key slot by)) (sym is) (stores_by slot by v y may seated)

  pub admits : Admits Rule newcomer
  admits x views h = record { calls = h.calls; history = histories.arrives key meets h.calls views h.history; left = h.left }

  pub begins : Rule (0 ∷ 0 ∷ 0 ∷ []) (newcomer ∷ [])
  begins = record { calls = []; history = histories.begins key meets; left = refl }

  pub forks : (by : ℕ) (v : View) → Forks Rule by v spent (hearer v)
  forks by v x views h at = record { calls = h.calls; history = histories.forks key meets by v h.calls views h.history at; left = h.left }

  pub tells : (by : ℕ) (v : View) (other : ℕ) (w : View) → v.seated ≡ true → w.seated ≡ true → Merges Rule by v other w (told v w) spent
  tells by v other w seated also x views h at apart there =
      record { calls = h.calls; history = histories.tells key meets by v other w h.calls views seated also h.history at apart there; left = h.left }
