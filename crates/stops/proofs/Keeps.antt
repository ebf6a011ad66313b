-- Each step keeps the rule of the word.
use Rattle.std.proofs.Common.{◌≡◌, ◌≢◌, ◌⊎◌, ℕ, zero, suc, ◌+◌, ◌≤◌, true, [], ◌∷◌, get_or, set, sym, refl, ap, ◌∙◌, subst, inl, inr, ⊎_elim, arith, le_refl}
use Rattle.std.proofs.lemmas.Bool.{false≢true}
use mathlib.Core.Option as option
use lib.ListN.{get_elem?}
use Rattle.atomic_table.specs.Table.{State, Me, keeps, stepped, Allows, Splits, opening}
use Rattle.atomic_table.proofs.Lists.{at_set, set_again, at_snoc}
use Rattle.stops.specs.declared.views.RequestView.{RequestView}
use Rattle.stops.specs.Rule.{request_view, hearing_view, FitsRequests, RequestsHold, heard, made}
use Rattle.stops.specs.Promise.{AreMade}

abbrev St : Type 0
St = State (Unit {0}) RequestView

abbrev M : Type 0
M = Me (Unit {0}) RequestView

first_fits : (seat : ℕ) (v : RequestView) → get_elem? (request_view 0 true ∷ []) seat ≡ option.some v → FitsRequests 0 0 seat v
first_fits zero v e = subst (FitsRequests 0 0 zero) (option.some-injective (request_view 0 true) v e) record { past = le_refl 0; whole = λ _. refl; one = λ _. refl }
first_fits (suc seat) v e = absurd (option.some-ne-none v (sym e))

-- at the start no request was made
pub begins : RequestsHold (opening (0 ∷ []) [] (request_view 0 true))
begins = record { made = 0; asker = 0; alone = refl; each_seat = first_fits }

-- what another seat knows: if it asked, there would be two that do, unless nothing was asked
others : (s : St) (r : RequestsHold s) (id seat n : ℕ) (me v : RequestView) → get_elem? s.views id ≡ option.some me → get_elem? s.views seat ≡ option.some v → seat ≢ id
    → (me.asks ≡ true) ⊎ (n ≡ r.made) → v.asks ≡ true → v.requests ≡ n
others s r id seat n me v at there apart who a = ⊎_elim
    (λ (own : me.asks ≡ true). absurd (apart ((r.each_seat seat v there).one a ∙ sym ((r.each_seat id me at).one own))))
    (λ (same : n ≡ r.made). (r.each_seat seat v there).whole a ∙ sym same)
    who

-- the word becomes n, no less than it was, and the seat knows n
rises : (s : St) (r : RequestsHold s) (id : ℕ) (me : M) (n : ℕ) → get_elem? s.views id ≡ option.some me.0 → r.made ≤ n → (me.0.asks ≡ true) ⊎ (n ≡ r.made)
    → RequestsHold (stepped s 0 n id me.1 (request_view n me.0.asks) keeps)
rises s r id me n at more who = let mine = r.each_seat id me.0 at in let w : RequestView = request_view n me.0.asks in record {
  made = n;
  asker = r.asker;
  alone = ap (λ ws. set ws 0 n) r.alone;
  each_seat = λ seat v e. ⊎_elim
      (λ (x : (seat ≡ id) × (w ≡ v)). subst (FitsRequests r.asker n seat) x.1 record { past = le_refl n; whole = λ _. refl; one = λ a. x.0 ∙ mine.one a })
      (λ (x : (seat ≢ id) × (get_elem? s.views seat ≡ option.some v)). let f = r.each_seat seat v x.1 in record { past = omega (arith, f.past, more); whole = others s r id seat n me.0 v at x.1 x.0 who; one = f.one })
      (at_set s.views id seat w v e);
}

-- the word that a step finds
found : (s : St) (r : RequestsHold s) → r.made ≡ get_or s.words 0 0
found s r = sym (ap (λ ws. get_or ws 0 0) r.alone)

pub hears_allowed : (slots id : ℕ) (me : M) → Allows RequestsHold slots id me 0 (λ n. n) (heard me)
hears_allowed slots id me s r _ at _ =
    let is = found s r in
    let n : ℕ = get_or s.words 0 0 in
    let mine = r.each_seat id me.0 at in
    (request_view n me.0.asks, keeps, tt, rises s r id me n at (omega (arith, is)) (inr (sym is)), ((refl, omega (arith, is, mine.past), λ a. mine.whole a ∙ is), refl))

pub asks_allowed : (slots id : ℕ) (me : M) (n : ℕ) → me.0.asks ≡ true → n ≡ me.0.requests + 1 → Allows RequestsHold slots id me 0 (λ _. n) (λ _. made n me)
asks_allowed slots id me n own next s r _ at _ =
    let mine = r.each_seat id me.0 at in
    (request_view n me.0.asks, keeps, tt, rises s r id me n at (omega (arith, next, mine.whole own)) (inl own), (refl, refl))

pub deals_allowed : (id : ℕ) (v : RequestView) → Splits RequestsHold id v v (hearing_view v)
deals_allowed id v s r at = let same = set_again s.views id v at in let mine = r.each_seat id v at in record {
  made = r.made;
  asker = r.asker;
  alone = r.alone;
  each_seat = λ seat u e. ⊎_elim
      (λ (x : get_elem? (set s.views id v) seat ≡ option.some u). r.each_seat seat u (ap (λ vs. get_elem? vs seat) (sym same) ∙ x))
      (λ (x : hearing_view v ≡ u). subst (FitsRequests r.asker r.made seat) x record { past = mine.past; whole = λ a. absurd (false≢true a); one = λ a. absurd (false≢true a) })
      (at_snoc (set s.views id v) (hearing_view v) u seat e);
}

pub are_made : (s : St) → AreMade s
are_made s r i j v w at there own = omega (arith, (r.each_seat i v at).past, (r.each_seat j w there).whole own)
