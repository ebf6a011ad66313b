-- The calls that a seat adds.
use Rattle.std.proofs.Common.{◌≡◌, ℕ, List, [], ◌++◌, length, drop, refl, sym, ap, ◌∙◌, subst, arith, append_assoc, append-nil}
use Rattle.std.proofs.Math.Seq.{drop-append_seam}
use Rattle.std.proofs.lemmas.List.Elements.{All-append}
use Rattle.atomic_table.specs.Seated.{TableId}
use Rattle.atomic_table.specs.declared.shared.Seat.{Seat}
use Rattle.slots.specs.declared.views.View.{View}
use Rattle.slots.specs.declared.calls.Call.{Call}
use Rattle.slots.specs.Steps.{HitFits}
use Rattle.slots.specs.Promise.{all_mine, IsSeatOf, Grew}
use Rattle.slots.proofs.Grows.{grew_none, grew_more}
use Rattle.entry.specs.Keys.{key_words}
use Rattle.entry.specs.Truth.{IsTruePacking}
use Rattle.decision.specs.Calls.{added, AreHitsTrue, Continues}

-- what a seat has added, by its calls after and before
pub added_is : (a b : Seat ℕ View) (calls : List Call) → all_mine b ≡ all_mine a ++ calls → added a b ≡ calls
added_is a b calls e = ap (drop (length (all_mine a))) e ∙ drop-append_seam (all_mine a) calls

added_grew : (a b : Seat ℕ View) (g : Grew a b) → added a b ≡ g.more
added_grew a b g = added_is a b g.more g.mine

-- calls that follow on calls are added behind them
pub added_more : (a b c : Seat ℕ View) → Grew a b → Grew b c → added a c ≡ added a b ++ added b c
added_more a b c g h =
    added_is a c (g.more ++ h.more) (h.mine ∙ (ap (λ (l : List Call). l ++ h.more) g.mine ∙ append_assoc (all_mine a) g.more h.more)) ∙ sym (λ i. added_grew a b g i ++ added_grew b c h i)

-- no call
pub continues_none : (t : TableId) (a : Seat ℕ View) → IsSeatOf t a → Continues t a a
continues_none t a seat = record {
  seat = seat;
  id = refl;
  number = refl;
  grew = grew_none a;
  hits = subst AreHitsTrue (sym (added_is a a [] (sym (append-nil (all_mine a))))) (λ k d lt. absurd (omega (arith, lt)));
  history = λ h. h;
}

pub continues_more : (t : TableId) (a b c : Seat ℕ View) → Continues t a b → Continues t b c → Continues t a c
continues_more t a b c p q = record {
  seat = q.seat;
  id = q.id ∙ p.id;
  number = q.number ∙ p.number;
  grew = grew_more a b c p.grew q.grew;
  hits = subst AreHitsTrue (sym (added_more a b c p.grew q.grew)) (All-append (λ x. HitFits key_words IsTruePacking x.act) (added a b) (added b c) p.hits q.hits);
  history = λ h. q.history (p.history h);
}
