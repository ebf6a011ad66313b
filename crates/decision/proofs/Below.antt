-- The positions below one, and what a decision's calls amount to.
use Rattle.std.proofs.Common.{◌≡◌, ℕ, ◌+◌, ◌-◌, ◌<◌, ◌≤◌, ◌↔◌, IsTrue, Bool, true, false, not, List, ◌++◌, take, length, get_or, All, refl, sym, subst, arith, MatchBool}
use Rattle.std.proofs.lemmas.Bool.{false≢true}
use Rattle.std.proofs.lemmas.Grind.{common_steps, elements}
use Rattle.std.proofs.lemmas.List.{take_all}
use Rattle.std.proofs.lemmas.List.Elements.{All-more, Contains-append_left, Contains-append_right}
use Rattle.std.specs.List.{refill}
use Rattle.board.specs.Board.{PlainBoard}
use Rattle.rules.specs.Squares.{Ply}
use Rattle.rules.proofs.Keeps.{one_after}
use Rattle.rules.proofs.Forcing.{to_own, to_other}
use Rattle.slots.specs.declared.calls.Call.{Call}
use Rattle.slots.specs.Promise.{slots_of, number}
use Rattle.decision.specs.declared.caller.Caller.{Caller}
use Rattle.problems.specs.declared.question.Question.{Question}
use Rattle.problems.specs.Questions.{question, IsForced, LeadsTo}
use Rattle.decision.specs.Callers.{GoesOn, OnAdded, IsAskedAfter, HasAsked, OffersKnown, IsFound}
use Rattle.decision.specs.Decisions.{IsAsked, RestsOnOne, Asks, OffersBoth, StoresAnswer, AsksBelow, IsDecided}
use Rattle.problems.specs.Tried.{ListsAll, is_own, IsPassed, IsCut}
use Rattle.board.proofs.RankText.{on_true as on_own, on_false as on_other}
use Rattle.problems.proofs.Tried.{ended_answer, gone_answer, some_listed, All-listed}
use Rattle.decision.proofs.Callers.{on_added, on_later, begins_on, ends_behind}
use Rattle.board.specs.Games.{is_same_side}
use Rattle.rules.specs.Moves.{IsLawful}
use Rattle.slots.specs.declared.calls.Act.TheVariants.{Asked, Offered}
use Rattle.slots.specs.declared.calls.Probe.{Probe}
use Rattle.entry.specs.Bounds.{Bounds}
use Rattle.decision.specs.declared.decision.Decision.{Decision}
use Rattle.decision.specs.Questions.{entry_for, entry_words, key_for, first_slot, Settles, said, IsMetWith}
use Rattle.decision.specs.Decisions.Asks.{first_decides, one_slot, second_decides, neither_decides}

-- ---- what the moves say

-- of one's own turn and the other
module _ (q : Question) where
  pub rests : (own : Bool) → own ≡ is_own q → RestsOnOne q own
  rests true turn = to_own _ _ _ (sym turn) refl
  rests false turn = to_other _ _ _ (sym turn) refl

  pub rests_not : (own : Bool) → own ≡ is_own q → RestsOnOne q (not own) → ⊥
  rests_not true turn r = false≢true (on_own _ _ _ (sym turn) r)
  rests_not false turn r = false≢true (sym (on_other _ _ _ (sym turn) r))

module _ (q : Question) (n : ℕ) (own : Bool) (turn : own ≡ is_own q) (plies : 0 < n) where
  -- some move ends the search
  pub ends_it : IsCut q (n - 1) own → IsTrue own ↔ IsForced q n
  ends_it cut = ended_answer q n own turn plies cut.0 cut.1 cut.2 cut.3

  -- none of all that were tried does
  pub none_ends : (moves : List Ply) → ListsAll q.position moves → 0 < length moves → (i : ℕ) → length moves ≤ i → All (IsPassed q (n - 1) own) (take i moves) → IsTrue (not own) ↔ IsForced q n
  none_ends moves lists some i all passed =
      gone_answer q n own turn plies (some_listed q.position moves lists some) (All-listed q.position moves lists (IsPassed q (n - 1) own) (subst (All (IsPassed q (n - 1) own)) (take_all i moves all) passed))

-- ---- what was asked of the moves

-- what was asked stays asked as calls follow, and as they come before
pub asked_on : (q : Question) (slots number : ℕ) (xs ys : List Call) → IsAsked q slots number xs → IsAsked q slots number (xs ++ ys)
asked_on q slots number xs ys a = (a.0, Contains-append_left xs ys _ a.1)

pub asked_behind : (q : Question) (slots number : ℕ) (xs ys : List Call) → IsAsked q slots number ys → IsAsked q slots number (xs ++ ys)
asked_behind q slots number xs ys a = (a.0, Contains-append_right xs ys _ a.1)

module _ {A : Type 0} {a b c : Caller A} (ab : GoesOn a b) (bc : GoesOn b c) (q : Question) (m : Ply) (other : Question) (l : LeadsTo q m other) (asked : OnAdded (IsAsked other) b c) where
  -- of the position after a move
  pub asked_later : OnAdded (IsAsked (question l.0 q.attacker q.goal)) a c
  asked_later = subst (λ (o : Question). OnAdded (IsAsked o) a c) l.2 (on_later (IsAsked other) ab bc (asked_behind other) asked)

  -- and so of the positions after one move more
  pub asked_next : (ms : List Ply) (i : ℕ) → i < length ms → m ≡ get_or ms i m → All (IsAskedAfter q a b) (take i ms)
      → All (IsAskedAfter q a c) (take (i + 1) ms)
  asked_next ms i lt is before =
      All-more (IsAskedAfter q a c) ms i m lt
      (λ k d small x move. on_added (IsAsked (question x q.attacker q.goal)) ab bc (asked_on (question x q.attacker q.goal)) (before k d small x move))
      (subst (IsAskedAfter q a c) is last)
    where
      last : IsAskedAfter q a c m
      last x move = subst (λ (z : PlainBoard). OnAdded (IsAsked (question z q.attacker q.goal)) a c) (one_after q.position m l.0 x l.1 move) asked_later

-- ---- lists of moves in another order

-- a list of the same length written over another
pub refilled : {X : Type 0} (xs ys : List X) → length ys ≡ length xs → refill (length xs) xs ys ≡ ys
refilled xs ys same = grind (arith, common_steps, elements)

-- what was asked first stays first as calls follow
pub asks_on : (key : List ℕ) (slot slots n number : ℕ) (counts : Probe) (xs ys : List Call) → Asks key slot slots n number counts xs → Asks key slot slots n number counts (xs ++ ys)
asks_on key slot slots n number counts xs ys (first_decides b s) = first_decides (begins_on slot number (Asked key counts) xs ys b) s
asks_on key slot slots n number counts xs ys (one_slot b s le) = one_slot (begins_on slot number (Asked key counts) xs ys b) s le
asks_on key slot slots n number counts xs ys (second_decides {reply} b s lt b' s') = second_decides (begins_on slot number (Asked key reply) xs ys b) s lt (begins_on (slot + 1) number (Asked key counts) xs ys b') s'
asks_on key slot slots n number counts xs ys (neither_decides {reply} b s lt b' s') = neither_decides (begins_on slot number (Asked key counts) xs ys b) s lt (begins_on (slot + 1) number (Asked key reply) xs ys b') s'

on_either : (r : Bool) (P Q : Type 0) → P → Q → MatchBool r P Q
on_either true P Q p q = p
on_either false P Q p q = q

offers_behind : (slot slots number : ℕ) (words : List ℕ) (xs ys : List Call) → OffersBoth slot slots number words ys → OffersBoth slot slots number words (xs ++ ys)
offers_behind slot slots number words xs ys o = record {
  first = (o.first.0, ends_behind slot number (Offered words o.first.0) xs ys o.first.1);
  second = λ lt. let s = o.second lt in (s.0, ends_behind (slot + 1) number (Offered words s.0) xs ys s.1);
}

-- what was asked below stays asked as calls follow, and as they come before
below_on : (q : Question) (answer : Bool) (slots number : ℕ) (xs ys : List Call) → AsksBelow q slots number answer xs → AsksBelow q slots number answer (xs ++ ys)
below_on q answer slots number xs ys a = record {
  some = λ r. let w = a.some r in (w.0, w.1, w.2, asked_on (question w.1 q.attacker q.goal) slots number xs ys w.3);
  every = λ r m b move. asked_on (question b q.attacker q.goal) slots number xs ys (a.every r m b move);
}

below_behind : (q : Question) (answer : Bool) (slots number : ℕ) (xs ys : List Call) → AsksBelow q slots number answer ys → AsksBelow q slots number answer (xs ++ ys)
below_behind q answer slots number xs ys a = record {
  some = λ r. let w = a.some r in (w.0, w.1, w.2, asked_behind (question w.1 q.attacker q.goal) slots number xs ys w.3);
  every = λ r m b move. asked_behind (question b q.attacker q.goal) slots number xs ys (a.every r m b move);
}

pub known_behind : (q : Question) (i : Bounds) (slots number : ℕ) (xs ys : List Call) → OffersKnown q i slots number ys → OffersKnown q i slots number (xs ++ ys)
known_behind q i slots number xs ys o = offers_behind (first_slot (key_for q) slots) slots number (entry_words (entry_for q i)) xs ys o

answer_behind : (q : Question) (n : ℕ) (d : Decision) (slots number : ℕ) (xs ys : List Call) → StoresAnswer q slots n number d ys → StoresAnswer q slots n number d (xs ++ ys)
answer_behind q n d slots number xs ys s = record { interval = s.interval; met = s.met; offers = known_behind q s.interval slots number xs ys s.offers }

-- what is found and then kept
pub found_by : {A : Type 0} {a b c : Caller A} → GoesOn a b → GoesOn b c → (q : Question) (n : ℕ) (d : Decision) (i : Bounds) → (IsTrue d.yes ↔ IsForced q n) → 0 < d.expanded → IsMetWith d.first (said d.yes n) i
    → (0 < n → ((m : Ply) × IsLawful q.position m) → OnAdded (λ slots number. AsksBelow q slots number d.yes) a b) → OnAdded (OffersKnown q i) b c → OnAdded (λ slots number. IsFound q slots n number d.first d) a c
found_by ab bc q n d i answer some met below kept = record {
  first = refl;
  some = some;
  answer = answer;
  below = λ plies lawful. on_added (λ slots number. AsksBelow q slots number d.yes) ab bc (below_on q d.yes) (below plies lawful);
  stored = on_later (λ slots number. StoresAnswer q slots n number d) ab bc (answer_behind q n d) (record { interval = i; met = met; offers = kept });
}

-- what is asked, and then found
pub decided_found : {A : Type 0} {a b c : Caller A} → GoesOn b c → (q : Question) (n : ℕ) (reply : Probe) (d : Decision) → HasAsked (key_for q) (first_slot (key_for q) (slots_of a.slots.now)) n reply a b → (Settles reply n → ⊥)
    → OnAdded (λ slots number. IsFound q slots n number reply d) b c → OnAdded (λ slots number. IsDecided q slots n number d) a c
decided_found {A} {a} {b} {c} bc q n reply d near silent found =
    let first : reply ≡ d.first = sym found.first in
    let asks = on_added (λ slots number. Asks (key_for q) (first_slot (key_for q) slots) slots n number reply) near.goes_on bc (λ slots number. asks_on (key_for q) (first_slot (key_for q) slots) slots n number reply) near.asked in
    record {
      answer = found.answer;
      decides = record {
        asked = subst (λ (r : Probe). OnAdded (λ slots number. Asks (key_for q) (first_slot (key_for q) slots) slots n number r) a c) first asks;
        at_once = λ settles. absurd (silent (subst (λ (r : Probe). Settles r n) found.first settles));
        searched = λ _. on_either (is_same_side q.attacker q.position.mover) (0 < n → 0 < d.expanded) (0 < d.expanded) (λ _. found.some) found.some;
        stored = λ _. on_later (λ slots number. StoresAnswer q slots n number d) near.goes_on bc (answer_behind q n d) found.stored;
      };
      below = λ _ plies lawful. on_later (λ slots number. AsksBelow q slots number d.yes) near.goes_on bc (below_behind q d.yes) (found.below plies lawful);
    }

-- a reply that decides
pub decided_at_once : {A : Type 0} {a b : Caller A} (q : Question) (n : ℕ) (answer : Bool) (reply : Probe) → HasAsked (key_for q) (first_slot (key_for q) (slots_of a.slots.now)) n reply a b → (IsTrue answer ↔ IsForced q n) → Settles reply n
    → OnAdded (λ slots number. IsDecided q slots n number (record { yes = answer; expanded = 0; first = reply })) a b
decided_at_once q n answer reply near right settles = record {
  answer = right;
  decides = record {
    asked = near.asked;
    at_once = λ _. (refl, near.probes);
    searched = λ silent. absurd (silent settles);
    stored = λ lt. absurd (omega (arith, lt));
  };
  below = λ lt. absurd (omega (arith, lt));
}
