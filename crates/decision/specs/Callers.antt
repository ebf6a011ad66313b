-- What the functions inside keep of a caller's calls, and no caller sees.
use Rattle.std.specs.Prelude.{◌≡◌, ◌<◌, ◌↔◌, IsTrue, ℕ, List, ◌∷◌, [], All, Contains}
use Rattle.board.specs.Board.{PlainBoard}
use Rattle.rules.specs.Squares.{Ply}
use Rattle.rules.specs.Moves.{IsMove, IsLawful}
use Rattle.slots.specs.declared.calls.Call.{Call}
use Rattle.slots.specs.declared.calls.Act.{Act}
use Rattle.slots.specs.declared.calls.Act.TheVariants.{Asked}
use Rattle.slots.specs.declared.calls.Probe.{Probe}
use Rattle.slots.specs.Machine.{call}
use Rattle.slots.specs.Steps.{HitFits}
use Rattle.slots.specs.Promise.{slots_of, number}
use Rattle.entry.specs.Bounds.{Bounds}
use Rattle.entry.specs.Keys.{key_words}
use Rattle.entry.specs.Truth.{IsTruePacking}
use Rattle.problems.specs.declared.question.Question.{Question}
use Rattle.problems.specs.Questions.{question, IsForced}
use Rattle.decision.specs.declared.caller.Caller.{Caller}
use Rattle.decision.specs.declared.lead.Lead.{Lead}
use Rattle.decision.specs.declared.decision.Decision.{Decision}
use Rattle.decision.specs.declared.searching.Pass.{Pass}
use Rattle.decision.specs.declared.searching.Pass.TheVariants.{Answers, PutOff}
use Rattle.decision.specs.Calls.{added, Continues, KnowsCalls}
use Rattle.decision.specs.Questions.{entry_for, entry_words, key_for, first_slot, Tells, IsKnownOf}
use Rattle.decision.specs.Decisions.{Asks, IsProbeOf, OffersBoth, IsAsked, AsksBelow, StoresAnswer}

-- the same caller, later: its table and its seat are the same, and its seat continues
pub record GoesOn {A : Type 0} (before after : Caller A) : Type 0 where
  pub table : after.slots.now ≡ before.slots.now
  pub reference : after.seat.ghost_name ≡ before.seat.ghost_name
  pub calls : Continues before.slots.now before.seat.now after.seat.now

-- this holds of the table's slots, the caller's number, and the calls that the caller has added, in its order
abbrev pub OnAdded : {A : Type 0} → (ℕ → ℕ → List Call → Type 0) → Caller A → Caller A → Type 0
OnAdded P before after = P (slots_of before.slots.now) (number before.seat.now) (added before.seat.now after.seat.now)

-- the caller has made one call more, at the slot
pub record MakesCall {A : Type 0} (slot : ℕ) (act : Act) (before after : Caller A) : Type 0 where
  pub goes_on : GoesOn before after
  pub history : KnowsCalls after.seat.now
  pub one : added before.seat.now after.seat.now ≡ call slot (number before.seat.now) act ∷ []
  pub hit : HitFits key_words IsTruePacking act

-- a caller, later, and the name and the stop of what leads its search: the one is the same, the other stays
pub record StaysLed {S A : Type 0} (stays : S → S → Type 0) (before after : Caller A) (name name' : ℕ) (first last : S) : Type 0 where
  pub caller : GoesOn before after
  pub reference : name' ≡ name
  pub stop : stays first last

-- a caller and what leads its search, later: the search is led by the same scout, whose stop stays
abbrev pub Searches : {S A : Type 0} → (S → S → Type 0) → Caller A → Caller A → Lead S → Lead S → Type 0
Searches stays before after lead lead' = StaysLed stays before after lead.scout.ghost_name lead'.scout.ghost_name lead.scout.now.stop lead'.scout.now.stop

-- what a pass over the moves tells of n plies: the answer, or where moves were put off, nothing
abbrev pub PassTells : Question → ℕ → Pass → Type 0
PassTells q n (Answers answer) = IsTrue answer ↔ IsForced q n
PassTells q n PutOff = Unit {0}

-- the caller has asked for the key from this slot on, and this reply counts
pub record HasAsked {A : Type 0} (key : List ℕ) (slot n : ℕ) (reply : Probe) (before after : Caller A) : Type 0 where
  pub goes_on : GoesOn before after
  pub history : KnowsCalls after.seat.now
  pub first : OnAdded (λ slots number calls. (r : Probe) × Contains calls (call slot number (Asked key r))) before after
  pub asked : OnAdded (λ slots number. Asks key slot slots n number reply) before after
  pub probes : All (IsProbeOf key) (added before.seat.now after.seat.now)
  pub hit : HitFits key_words IsTruePacking (Asked key reply)

-- the reply is one to the question's key: what it tells is right of the question
pub record IsReplyTo (q : Question) (reply : Probe) : Type 0 where
  pub key : List ℕ
  pub hit : HitFits key_words IsTruePacking (Asked key reply)
  pub right : (i : Bounds) → Tells reply i → IsKnownOf q i

-- what is known of the question is offered last, in its own slots
abbrev pub OffersKnown : Question → Bounds → ℕ → ℕ → List Call → Type 0
OffersKnown q known slots number calls = OffersBoth (first_slot (key_for q) slots) slots number (entry_words (entry_for q known)) calls

-- the table was asked of the position after the move
abbrev pub IsAskedAfter : {A : Type 0} → Question → Caller A → Caller A → Ply → Type 0
IsAskedAfter q before after m = (b : PlainBoard) → IsMove q.position m b → OnAdded (IsAsked (question b q.attacker q.goal)) before after

-- what a search found where the table's reply decided nothing: the answer, by the positions below, which is stored last
pub record IsFound (q : Question) (slots n number : ℕ) (reply : Probe) (d : Decision) (calls : List Call) : Type 0 where
  pub first : d.first ≡ reply
  pub some : 0 < d.expanded
  pub answer : IsTrue d.yes ↔ IsForced q n
  pub below : 0 < n → ((m : Ply) × IsLawful q.position m) → AsksBelow q slots number d.yes calls
  pub stored : StoresAnswer q slots n number d calls
