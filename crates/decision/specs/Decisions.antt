-- What a decision promises of the calls that it adds.
use Rattle.std.specs.Prelude.{◌≡◌, ℕ, ◌+◌, ◌<◌, ◌≤◌, ◌↔◌, IsTrue, Bool, true, false, List, All, Contains}
use Rattle.board.specs.Board.{PlainBoard}
use Rattle.rules.specs.Squares.{Ply}
use Rattle.rules.specs.Moves.{IsMove, IsLawful}
use Rattle.rules.specs.Forces.{OnTurn}
use Rattle.slots.specs.declared.calls.Call.{Call}
use Rattle.slots.specs.declared.calls.Act.TheVariants.{Asked, Offered}
use Rattle.slots.specs.declared.calls.Probe.{Probe}
use Rattle.slots.specs.declared.calls.Store.{Store}
use Rattle.slots.specs.Machine.{call}
use Rattle.entry.specs.Bounds.{Bounds}
use Rattle.decision.specs.declared.decision.Decision.{Decision}
use Rattle.decision.specs.Calls.{BeginsWith, EndsWith}
use Rattle.problems.specs.declared.question.Question.{Question}
use Rattle.problems.specs.Questions.{question, IsForced}
use Rattle.decision.specs.Questions.{entry_for, entry_words, key_for, first_slot, Settles, said, IsMetWith}

-- The key is asked in its first slot, and then in its second, if the table has it, where the first reply doesn't decide n. The reply that counts is the one that decides n, else the first slot's
pub data Asks (key : List ℕ) (slot slots n number : ℕ) (counts : Probe) (calls : List Call) : Type 0 where
  first_decides : BeginsWith slot number (Asked key counts) calls → Settles counts n → Asks key slot slots n number counts calls
  one_slot : BeginsWith slot number (Asked key counts) calls → (Settles counts n → ⊥) → slots ≤ slot + 1 → Asks key slot slots n number counts calls
  second_decides : {reply : Probe} → BeginsWith slot number (Asked key reply) calls → (Settles reply n → ⊥) → slot + 1 < slots
      → BeginsWith (slot + 1) number (Asked key counts) calls → Settles counts n → Asks key slot slots n number counts calls
  neither_decides : {reply : Probe} → BeginsWith slot number (Asked key counts) calls → (Settles counts n → ⊥) → slot + 1 < slots
      → BeginsWith (slot + 1) number (Asked key reply) calls → (Settles reply n → ⊥) → Asks key slot slots n number counts calls

-- the call is a probe of the key
abbrev pub IsProbeOf : List ℕ → Call → Type 0
IsProbeOf key c = (reply : Probe) × (c.act ≡ Asked key reply)

-- the last call at the slot offers these words
abbrev pub OffersLast : ℕ → ℕ → List ℕ → List Call → Type 0
OffersLast slot number words calls = (reply : Store) × EndsWith slot number (Offered words reply) calls

-- the words are offered last, in both slots
pub record OffersBoth (slot slots number : ℕ) (words : List ℕ) (calls : List Call) : Type 0 where
  pub first : OffersLast slot number words calls
  pub second : slot + 1 < slots → OffersLast (slot + 1) number words calls

-- The answer is stored last: the question's entry with what the answer says, met with the interval of the reply that counted
pub record StoresAnswer (q : Question) (slots n number : ℕ) (d : Decision) (calls : List Call) : Type 0 where
  pub interval : Bounds
  pub met : IsMetWith d.first (said d.yes n) interval
  pub offers : OffersBoth (first_slot (key_for q) slots) slots number (entry_words (entry_for q interval)) calls

-- the question is asked in its first slot
abbrev pub IsAsked : Question → ℕ → ℕ → List Call → Type 0
IsAsked q slots number calls = (reply : Probe) × Contains calls (call (first_slot (key_for q) slots) number (Asked (key_for q) reply))

-- the attacker's yes and the defender's no rest on one move
abbrev pub RestsOnOne : Question → Bool → Type 0
RestsOnOne q answer = OnTurn q.attacker q.position (answer ≡ true) (answer ≡ false)

-- The positions below are asked of: after some move where the answer rests on one, else after every move
pub record AsksBelow (q : Question) (slots number : ℕ) (answer : Bool) (calls : List Call) : Type 0 where
  pub some : RestsOnOne q answer → (m : Ply) × (b : PlainBoard) × IsMove q.position m b × IsAsked (question b q.attacker q.goal) slots number calls
  pub every : (RestsOnOne q answer → ⊥) → (m : Ply) (b : PlainBoard) → IsMove q.position m b → IsAsked (question b q.attacker q.goal) slots number calls

-- what a decision promises of its answer and of the calls that it adds
pub record Decides (q : Question) (slots n number : ℕ) (d : Decision) (calls : List Call) : Type 0 where
  pub asked : Asks (key_for q) (first_slot (key_for q) slots) slots n number d.first calls
  pub at_once : Settles d.first n → (d.expanded ≡ 0) × All (IsProbeOf (key_for q)) calls
  pub searched : (Settles d.first n → ⊥) → OnTurn q.attacker q.position (0 < n → 0 < d.expanded) (0 < d.expanded)
  pub stored : 0 < d.expanded → StoresAnswer q slots n number d calls

-- what a decision promises: the answer is the definition's, its calls are these, and where it had to search it asked of the positions below
pub record IsDecided (q : Question) (slots n number : ℕ) (d : Decision) (calls : List Call) : Type 0 where
  pub answer : IsTrue d.yes ↔ IsForced q n
  pub decides : Decides q slots n number d calls
  pub below : 0 < d.expanded → 0 < n → ((m : Ply) × IsLawful q.position m) → AsksBelow q slots number d.yes calls
