-- What replies say.
use Rattle.std.proofs.Common.{◌≡◌, ℕ, ◌≤◌, ◌-◌, ◌↔◌, IsTrue, Bool, true, false, List, max, Option, Some, None, refl, sym, ap, ◌∙◌, subst, arith}
use Rattle.std.specs.Option.{IfSome, MatchOption, is_some}
use Rattle.std.proofs.lemmas.Bool.{false≢true}
use Rattle.board.specs.Board.{IsPosition}
use Rattle.rules.specs.Forces.{Forces}
use Rattle.slots.specs.declared.calls.Probe.{Probe}
use Rattle.slots.specs.declared.calls.Probe.TheVariants.{Hit}
use Rattle.slots.specs.declared.calls.Act.TheVariants.{Asked}
use Rattle.slots.specs.Steps.{HitFits}
use Rattle.entry.specs.declared.entries.Entry.{Entry}
use Rattle.entry.specs.Bounds.{Bounds, bounds_of, least, meeting}
use Rattle.entry.specs.Packing.{Packing}
use Rattle.entry.specs.Keys.{key_words}
use Rattle.entry.specs.Truth.{IsRight, IsTruePacking}
use Rattle.entry.proofs.Truths.{nothing_right, hit_right, yes_right, no_right, raise}
use Rattle.problems.specs.declared.question.Question.{Question}
use Rattle.decision.specs.Callers.{IsReplyTo}
use Rattle.decision.specs.Turned.{HaveOneAnswer}
use Rattle.problems.specs.Questions.{IsForced}
use Rattle.decision.specs.Questions.{IsKnownOf, entry_for, entry_words, key_for, EndsBy, Says, Settles, said, IsMetWith, Tells}

-- ---- what a reply tells

nothing_says : (n : ℕ) (answer : Bool) → Says (bounds_of 0 None) n answer → ⊥
nothing_says n true s = s
nothing_says n false s = omega (arith, s)

-- what a reply tells decides n where the reply does
pub settled_by : (key : List ℕ) (reply : Probe) (i : Bounds) (n : ℕ) (answer : Bool) → HitFits key_words IsTruePacking (Asked key reply) → Tells reply i → Says i n answer → Settles reply n
settled_by key (Hit words) i n answer h t s = (answer, (h.1.entry, h.1.packing, subst (λ (j : Bounds). Says j n answer) (t h.1.entry h.1.packing) s))
settled_by key _ i n answer h t s = absurd (nothing_says n answer (subst (λ (j : Bounds). Says j n answer) t s))

pub unsettled_by : (reply : Probe) (i : Bounds) (n : ℕ) → Tells reply i → ((answer : Bool) → Says i n answer → ⊥) → Settles reply n → ⊥
unsettled_by (Hit words) i n t none s = none s.0 (subst (λ (j : Bounds). Says j n s.0) (sym (t s.1.0 s.1.1)) s.1.2)
unsettled_by _ i n t none s = s.1

pub if_decided : (key : List ℕ) (reply : Probe) (i : Bounds) (n : ℕ) (found : Option Bool) → HitFits key_words IsTruePacking (Asked key reply) → Tells reply i → MatchOption found ((answer : Bool) → Says i n answer → ⊥) (λ answer. Says i n answer) → is_some found ≡ true → Settles reply n
if_decided key reply i n None h t found is = cc
if_decided key reply i n (Some answer) h t found is = settled_by key reply i n answer h t found

pub if_undecided : (reply : Probe) (i : Bounds) (n : ℕ) (found : Option Bool) → Tells reply i → MatchOption found ((answer : Bool) → Says i n answer → ⊥) (λ answer. Says i n answer) → is_some found ≡ false → Settles reply n → ⊥
if_undecided reply i n None t h is = unsettled_by reply i n t h
if_undecided reply i n (Some answer) t h is = cc

meeting_nothing : (s i : Bounds) → i ≡ bounds_of 0 None → meeting s i ≡ s
meeting_nothing s i e = ap (meeting s) e ∙ (λ k. bounds_of (low k) (high s.upto k))
  where
    low : max s.below 0 ≡ s.below
    low = omega arith

    high : (end : Option ℕ) → least end None ≡ end
    high None = refl
    high (Some n) = refl

-- an interval is met with what the reply tells
pub met_with : (key : List ℕ) (reply : Probe) (s i : Bounds) → HitFits key_words IsTruePacking (Asked key reply) → Tells reply i → IsMetWith reply s (meeting s i)
met_with key (Hit words) s i h t = (h.1.entry, h.1.packing, ap (meeting s) (t h.1.entry h.1.packing))
met_with key _ s i h t = meeting_nothing s i t

-- ---- what is right of a question

-- the entry that says nothing of the question
abbrev pub asked_for : Question → Entry
asked_for q = entry_for q (bounds_of 0 None)

pub packed_question : (q : Question) → IsPosition q.position → Packing (asked_for q) (entry_words (asked_for q))
packed_question q position = record {
  position = position;
  interval = record { below = omega arith; upto = tt; ordered = tt };
  words = refl;
}

-- what the reply to its key tells is right of the question
pub told_is_right : (q : Question) → IsPosition q.position → (key : List ℕ) → key ≡ key_for q → (reply : Probe) → HitFits key_words IsTruePacking (Asked key reply) → (i : Bounds) → Tells reply i → IsKnownOf q i
told_is_right q position key is (Hit words) h i t =
    subst (IsRight (asked_for q)) (sym (t h.1.entry h.1.packing)) (hit_right (asked_for q) h.1.entry words (entry_words (asked_for q)) (packed_question q position) h.1 (h.0 ∙ is) h.1.packing).1
told_is_right q position key is _ h i t = subst (IsRight (asked_for q)) (sym t) (nothing_right (asked_for q))

pub reply_to : (q : Question) → IsPosition q.position → (key : List ℕ) → key ≡ key_for q → (reply : Probe) → HitFits key_words IsTruePacking (Asked key reply) → IsReplyTo q reply
reply_to q position key is reply hit = record { key = key; hit = hit; right = told_is_right q position key is reply hit }

-- an answer is right of it
pub said_is_right : (q : Question) (n : ℕ) (answer : Bool) → (IsTrue answer ↔ Forces q.goal q.attacker q.position n) → IsRight (asked_for q) (said answer n)
said_is_right q n true h = yes_right (asked_for q) n (h.0 refl)
said_is_right q n false h = no_right (asked_for q) n (λ f. false≢true (h.1 f))

-- what is known and decides n is the answer
pub known_is_right : (q : Question) (i : Bounds) → IsKnownOf q i → (n : ℕ) (answer : Bool) → Says i n answer → IsTrue answer ↔ IsForced q n
known_is_right q i right n true s = (λ e. ends_in i.upto n s right.upto, λ f. refl)
  where
    ends_in : (end : Option ℕ) (n : ℕ) → EndsBy end n → IfSome end (Forces q.goal q.attacker q.position) → Forces q.goal q.attacker q.position n
    ends_in None n by f = absurd by
    ends_in (Some m) n by f = raise (asked_for q) (n - m) m n (omega (arith, by)) f
known_is_right q i right n false s = (λ e. absurd (false≢true e), λ f. absurd (right.below n s f))

-- what is forced within fewer plies is forced within more
pub forced_later : (q : Question) (k n : ℕ) → k ≤ n → IsForced q k → IsForced q n
forced_later q k n le f = raise (asked_for q) (n - k) k n (omega (arith, le)) f

-- what is known of a question is known of one that has its answers
pub known_as : (q other : Question) (i : Bounds) → HaveOneAnswer q other → IsKnownOf q i → IsKnownOf other i
known_as q other i same right = record { below = λ n lt f. right.below n lt ((same n).1 f); upto = ends i.upto right.upto }
  where
    ends : (end : Option ℕ) → IfSome end (Forces q.goal q.attacker q.position) → IfSome end (Forces other.goal other.attacker other.position)
    ends None h = h
    ends (Some m) h = (same m).0 h

-- by a copy of the question
pub known_back : (q copy other : Question) (i : Bounds) → copy ≡ q → HaveOneAnswer copy other → IsKnownOf other i → IsKnownOf q i
known_back q copy other i is same right = subst (λ (o : Question). IsKnownOf o i) is (known_as other copy i (λ n. ((same n).1, (same n).0)) right)

pub answer_as : (q copy other : Question) (n : ℕ) (answer : Bool) → copy ≡ q → HaveOneAnswer copy other → (IsTrue answer ↔ IsForced other n) → IsTrue answer ↔ IsForced q n
answer_as q copy other n answer is same h = subst (λ (o : Question). IsTrue answer ↔ IsForced o n) is (λ yes. (same n).1 (h.0 yes), λ forced. h.1 ((same n).0 forced))
