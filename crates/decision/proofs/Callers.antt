-- A caller that goes on, and what its probes and stores add.
use Rattle.std.proofs.Common.{◌≡◌, ℕ, List, ◌∷◌, [], ◌++◌, refl, sym, ap, ◌∙◌, subst, ◌≢◌, zero, ◌+◌, ◌<◌, ◌≤◌, All, Contains, cond, arith, append_assoc, eq-eqb, ne_eqb}
use Rattle.std.proofs.lemmas.List.Elements.{All-cons, All-nil}
use Rattle.atomic_table.specs.Seated.{TableId}
use Rattle.atomic_table.specs.declared.shared.Seat.{Seat}
use Rattle.slots.specs.declared.views.View.{View}
use Rattle.slots.specs.declared.calls.Call.{Call}
use Rattle.slots.specs.declared.calls.Act.{Act}
use Rattle.slots.specs.Machine.{calls_by, call, part}
use Rattle.slots.specs.Steps.{HitFits}
use Rattle.slots.specs.Promise.{slots_of, number, all_seen, all_mine, IsSeatOf, Called}
use Rattle.slots.proofs.Grows.{grew_by}
use Rattle.entry.specs.Keys.{key_words}
use Rattle.entry.specs.Truth.{IsTruePacking}
use Rattle.decision.specs.declared.caller.Caller.{Caller}
use Rattle.decision.specs.Calls.{mate_way, added, AreHitsTrue, KnowsCalls, Continues, BeginsWith, EndsWith}
use Rattle.decision.specs.Callers.{GoesOn, OnAdded, MakesCall, StaysLed, HasAsked}
use Rattle.decision.proofs.Calls.{continues_none, continues_more, added_is, added_more}
use Rattle.slots.specs.declared.calls.Act.TheVariants.{Asked, Offered}
use Rattle.slots.specs.declared.calls.Probe.{Probe}
use Rattle.slots.specs.declared.calls.Store.{Store}
use Rattle.slots.proofs.Histories.{part-own, part-other, part-append}
use Rattle.decision.specs.Questions.{Settles}
use Rattle.decision.specs.Decisions.{Asks, IsProbeOf, OffersBoth}
use Rattle.decision.specs.Decisions.Asks.{first_decides, one_slot, second_decides, neither_decides}

goes_none : {A : Type 0} (a : Caller A) → GoesOn a a
goes_none a = record { table = refl; reference = refl; calls = continues_none a.slots.now a.seat.now a.belongs }

pub goes_more : {A : Type 0} {a b c : Caller A} → GoesOn a b → GoesOn b c → GoesOn a c
goes_more {A} {a} {b} {c} p q = record {
  table = q.table ∙ p.table;
  reference = q.reference ∙ p.reference;
  calls = continues_more a.slots.now a.seat.now b.seat.now c.seat.now p.calls (subst (λ (t : TableId). Continues t b.seat.now c.seat.now) p.table q.calls);
}

-- what holds of its seat at the end, holds of the seat that it was lent
pub at_end : {A : Type 0} {a b : Caller A} {x : Seat ℕ View} (P : Seat ℕ View → Type 0) → GoesOn a b → (a.seat.ghost_name ≡ b.seat.ghost_name → x ≡ b.seat.now) → P b.seat.now → P x
at_end P goes same h = subst P (sym (same (sym goes.reference))) h

-- one call
pub makes_call : {A : Type 0} {a b : Caller A} {slot : ℕ} {act : Act} → b.slots.now ≡ a.slots.now → b.seat.ghost_name ≡ a.seat.ghost_name → IsSeatOf a.slots.now b.seat.now × (b.seat.now.id ≡ a.seat.now.id)
    → Called mate_way slot act a.seat.now b.seat.now → HitFits key_words IsTruePacking act → MakesCall slot act a b
makes_call {A} {a} {b} {slot} {act} table reference seat called hit = record {
  goes_on = record {
    table = table;
    reference = reference;
    calls = record {
      seat = seat.0;
      id = seat.1;
      number = called.same;
      grew = grew_by mate_way slot act a.seat.now b.seat.now called;
      hits = subst AreHitsTrue (sym one) (All-cons (λ c. HitFits key_words IsTruePacking c.act) (call slot (number a.seat.now) act) [] hit (All-nil (λ c. HitFits key_words IsTruePacking c.act)));
      history = λ _. history;
    };
  };
  history = history;
  one = one;
  hit = hit;
}
  where
    one : added a.seat.now b.seat.now ≡ call slot (number a.seat.now) act ∷ []
    one = added_is a.seat.now b.seat.now (call slot (number a.seat.now) act ∷ []) called.whole.own

    history : KnowsCalls b.seat.now
    history = record { legal = called.whole.legal; once = subst (λ n. calls_by n (all_seen b.seat.now) ≡ all_mine b.seat.now) (sym called.same) called.whole.once }

-- two calls in turn
pub two_added : {A : Type 0} {a b c : Caller A} {slot slot' : ℕ} {act act' : Act} → MakesCall slot act a b → MakesCall slot' act' b c
    → added a.seat.now c.seat.now ≡ call slot (number a.seat.now) act ∷ call slot' (number a.seat.now) act' ∷ []
two_added {A} {a} {b} {c} {slot} {slot'} {act} {act'} p q =
    added_more a.seat.now b.seat.now c.seat.now p.goes_on.calls.grew q.goes_on.calls.grew ∙ (λ i. p.one i ++ (q.one ∙ ap (λ n. call slot' n act' ∷ []) p.goes_on.calls.number) i)

-- ---- what holds of the calls that were added

-- it holds as others follow, where it stays so
pub on_added : {A : Type 0} (P : ℕ → ℕ → List Call → Type 0) {a b c : Caller A} → GoesOn a b → GoesOn b c → ((slots number : ℕ) (xs ys : List Call) → P slots number xs → P slots number (xs ++ ys)) → OnAdded P a b → OnAdded P a c
on_added {A} P {a} {b} {c} ab bc stays p =
    subst (P (slots_of a.slots.now) (number a.seat.now)) (sym (added_more a.seat.now b.seat.now c.seat.now ab.calls.grew bc.calls.grew))
    (stays (slots_of a.slots.now) (number a.seat.now) (added a.seat.now b.seat.now) (added b.seat.now c.seat.now) p)

-- and as others come before
pub on_later : {A : Type 0} (P : ℕ → ℕ → List Call → Type 0) {a b c : Caller A} → GoesOn a b → GoesOn b c → ((slots number : ℕ) (xs ys : List Call) → P slots number ys → P slots number (xs ++ ys)) → OnAdded P b c → OnAdded P a c
on_later {A} P {a} {b} {c} ab bc stays p =
    let later = added b.seat.now c.seat.now in
    let named = subst (λ n. P (slots_of a.slots.now) n later) ab.calls.number (subst (λ (t : TableId). P (slots_of t) (number b.seat.now) later) ab.table p) in
    subst (P (slots_of a.slots.now) (number a.seat.now)) (sym (added_more a.seat.now b.seat.now c.seat.now ab.calls.grew bc.calls.grew))
    (stays (slots_of a.slots.now) (number a.seat.now) (added a.seat.now b.seat.now) later named)

-- ---- what leads a search

pub led_more : {S A : Type 0} {stays : S → S → Type 0} {a b c : Caller A} {n m k : ℕ} {x y z : S} → ((x y z : S) → stays x y → stays y z → stays x z) → StaysLed stays a b n m x y → StaysLed stays b c m k y z → StaysLed stays a c n k x z
led_more {S} {A} {stays} {a} {b} {c} {n} {m} {k} {x} {y} {z} on p q = record { caller = goes_more p.caller q.caller; reference = q.reference ∙ p.reference; stop = on x y z p.stop q.stop }

pub led_then : {S A : Type 0} {stays : S → S → Type 0} {a b c : Caller A} {n m : ℕ} {x y : S} → StaysLed stays a b n m x y → GoesOn b c → StaysLed stays a c n m x y
led_then p q = record { caller = goes_more p.caller q; reference = p.reference; stop = p.stop }

pub then_led : {S A : Type 0} {stays : S → S → Type 0} {a b c : Caller A} {n m : ℕ} {x y : S} → GoesOn a b → StaysLed stays b c n m x y → StaysLed stays a c n m x y
then_led p q = record { caller = goes_more p q.caller; reference = q.reference; stop = q.stop }

pub led_still : {S A : Type 0} {stays : S → S → Type 0} {a b : Caller A} {n : ℕ} {x : S} → ((x : S) → stays x x) → GoesOn a b → StaysLed stays a b n n x x
led_still {S} {A} {stays} {a} {b} {n} {x} still p = record { caller = p; reference = refl; stop = still x }

pub led_by : {S A : Type 0} {stays : S → S → Type 0} (a : Caller A) {n : ℕ} {x y : S} → stays x y → StaysLed stays a a n n x y
led_by a h = record { caller = goes_none a; reference = refl; stop = h }

-- ---- calls at two slots

-- the first call at a slot stays the first
pub begins_on : (slot number : ℕ) (act : Act) (xs ys : List Call) → BeginsWith slot number act xs → BeginsWith slot number act (xs ++ ys)
begins_on slot number act xs ys b = (b.0 ++ part slot ys, part-append slot xs ys ∙ ap (λ (l : List Call). l ++ part slot ys) b.1)

-- a call is the first at its slot, and of no other slot
pub begins_here : (slot number : ℕ) (act : Act) (ys : List Call) → BeginsWith slot number act (call slot number act ∷ ys)
begins_here slot number act ys = (part slot ys, ap (λ b. cond b (call slot number act ∷ part slot ys) (part slot ys)) (eq-eqb slot slot refl))

pub begins_past : (slot number : ℕ) (act : Act) (c : Call) (ys : List Call) → c.slot ≢ slot → BeginsWith slot number act ys → BeginsWith slot number act (c ∷ ys)
begins_past slot number act c ys apart b = (b.0, ap (λ r. cond r (c ∷ part slot ys) (part slot ys)) (ne_eqb c.slot slot apart) ∙ b.1)

-- the last call at a slot, behind others
pub ends_behind : (slot number : ℕ) (act : Act) (xs ys : List Call) → EndsWith slot number act ys → EndsWith slot number act (xs ++ ys)
ends_behind slot number act xs ys e = (part slot xs ++ e.0, part-append slot xs ys ∙ (ap (λ (l : List Call). part slot xs ++ l) e.1 ∙ sym (append_assoc (part slot xs) e.0 (call slot number act ∷ []))))

pub ends_one : (slot number : ℕ) (act : Act) → EndsWith slot number act (call slot number act ∷ [])
ends_one slot number act = ([], part-own slot [] (call slot number act) refl)

-- a call at another slot changes nothing here
pub ends_before : (slot number : ℕ) (act : Act) (xs : List Call) (c : Call) → c.slot ≢ slot → EndsWith slot number act xs → EndsWith slot number act (xs ++ c ∷ [])
ends_before slot number act xs c apart e = (e.0, part-other slot xs c apart ∙ e.1)

-- ---- probes and stores

-- the first call, and what follows on it
module _ {A : Type 0} {a b : Caller A} (key : List ℕ) (slot n : ℕ) (reply counts : Probe) (more : List Call) (goes : GoesOn a b) (knows : KnowsCalls b.seat.now) (made : added a.seat.now b.seat.now ≡ call slot (number a.seat.now) (Asked key reply) ∷ more)
    (probes : All (IsProbeOf key) more) (hit : HitFits key_words IsTruePacking (Asked key counts)) where
  asked_by : Asks key slot (slots_of a.slots.now) n (number a.seat.now) counts (call slot (number a.seat.now) (Asked key reply) ∷ more) → HasAsked key slot n counts a b
  asked_by asks = record {
    goes_on = goes;
    history = knows;
    first = (reply, subst (λ (l : List Call). Contains l (call slot (number a.seat.now) (Asked key reply))) (sym made) (zero, omega arith, refl));
    asked = subst (Asks key slot (slots_of a.slots.now) n (number a.seat.now) counts) (sym made) asks;
    probes = subst (All (IsProbeOf key)) (sym made) (All-cons (IsProbeOf key) (call slot (number a.seat.now) (Asked key reply)) more (reply, refl) probes);
    hit = hit;
  }

-- one probe alone
module _ {A : Type 0} {a b : Caller A} (key : List ℕ) (slot n : ℕ) (reply : Probe) (p : MakesCall slot (Asked key reply) a b) where
  asked_once : Asks key slot (slots_of a.slots.now) n (number a.seat.now) reply (call slot (number a.seat.now) (Asked key reply) ∷ []) → HasAsked key slot n reply a b
  asked_once asks = asked_by key slot n reply reply [] p.goes_on p.history p.one (All-nil (IsProbeOf key)) p.hit asks

  pub asks_once : Settles reply n → HasAsked key slot n reply a b
  asks_once settles = asked_once (first_decides (begins_here slot (number a.seat.now) (Asked key reply) []) settles)

  pub asks_alone : (Settles reply n → ⊥) → slots_of a.slots.now ≤ slot + 1 → HasAsked key slot n reply a b
  asks_alone silent le = asked_once (one_slot (begins_here slot (number a.seat.now) (Asked key reply) []) silent le)

-- a probe of each slot
module _ {A : Type 0} {a b c : Caller A} (key : List ℕ) (slot n : ℕ) (reply second : Probe) (p : MakesCall slot (Asked key reply) a b) (q : MakesCall (slot + 1) (Asked key second) b c) (silent : Settles reply n → ⊥) (two : slot + 1 < slots_of a.slots.now) where
  abbrev last : Call
  last = call (slot + 1) (number a.seat.now) (Asked key second)

  at_first : BeginsWith slot (number a.seat.now) (Asked key reply) (call slot (number a.seat.now) (Asked key reply) ∷ last ∷ [])
  at_first = begins_here slot (number a.seat.now) (Asked key reply) (last ∷ [])

  at_second : BeginsWith (slot + 1) (number a.seat.now) (Asked key second) (call slot (number a.seat.now) (Asked key reply) ∷ last ∷ [])
  at_second = begins_past (slot + 1) (number a.seat.now) (Asked key second) (call slot (number a.seat.now) (Asked key reply)) (last ∷ []) (λ e. omega (arith, e)) (begins_here (slot + 1) (number a.seat.now) (Asked key second) [])

  asked_twice : (counts : Probe) → HitFits key_words IsTruePacking (Asked key counts) → Asks key slot (slots_of a.slots.now) n (number a.seat.now) counts (call slot (number a.seat.now) (Asked key reply) ∷ last ∷ []) → HasAsked key slot n counts a c
  asked_twice counts hit asks = asked_by key slot n reply counts (last ∷ []) (goes_more p.goes_on q.goes_on) q.history (two_added p q) (All-cons (IsProbeOf key) last [] (second, refl) (All-nil (IsProbeOf key))) hit asks

  pub asks_second : Settles second n → HasAsked key slot n second a c
  asks_second settles = asked_twice second q.hit (second_decides at_first silent two at_second settles)

  pub asks_neither : (Settles second n → ⊥) → HasAsked key slot n reply a c
  asks_neither none = asked_twice reply p.hit (neither_decides at_first silent two at_second none)

-- a store in each slot
pub offers_two : {A : Type 0} {a b c : Caller A} (slot : ℕ) (words : List ℕ) (reply second : Store) → MakesCall slot (Offered words reply) a b → MakesCall (slot + 1) (Offered words second) b c → OnAdded (λ slots number. OffersBoth slot slots number words) a c
offers_two {A} {a} {b} {c} slot words reply second p q = let k = number a.seat.now in subst (OffersBoth slot (slots_of a.slots.now) k words) (sym (two_added p q)) (record {
  first = (reply, ends_before slot k (Offered words reply) (call slot k (Offered words reply) ∷ []) (call (slot + 1) k (Offered words second)) (λ e. omega (arith, e)) (ends_one slot k (Offered words reply)));
  second = λ lt. (second, ends_behind (slot + 1) k (Offered words second) (call slot k (Offered words reply) ∷ []) (call (slot + 1) k (Offered words second) ∷ []) (ends_one (slot + 1) k (Offered words second)));
})
