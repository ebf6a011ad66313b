-- What is asked of the table, and what its replies say.
use Rattle.std.specs.Prelude.{◌≡◌, ℕ, ◌+◌, ◌*◌, ◌/◌, ◌<◌, ◌≤◌, Bool, true, false, List, [], ◌∷◌, Option, Some, None}
use Rattle.slots.specs.declared.calls.Probe.{Probe}
use Rattle.slots.specs.declared.calls.Probe.TheVariants.{Hit}
use Rattle.entry.specs.declared.entries.Entry.{Entry}
use Rattle.entry.specs.Bounds.{Bounds, bounds_of, meeting}
use Rattle.entry.specs.Packing.{Packing, entry_of, first_word, second_word, third_word}
use Rattle.entry.specs.Keys.{key_words, slot_number}
use Rattle.entry.specs.Truth.{IsRight}
use Rattle.problems.specs.declared.question.Question.{Question}

-- the entry that gives the question this interval
abbrev pub entry_for : Question → Bounds → Entry
entry_for q i = entry_of q.position q.attacker q.goal i

-- an entry's three words
abbrev pub entry_words : Entry → List ℕ
entry_words e = first_word e ∷ second_word e ∷ third_word e ∷ []

-- the key by which the question is asked
abbrev pub key_for : Question → List ℕ
key_for q = key_words (entry_words (entry_for q (bounds_of 0 None)))

-- the key's first slot: its number, rounded down to an even one. The second is the next one
abbrev pub first_slot : List ℕ → ℕ → ℕ
first_slot key slots = slot_number key slots / 2 * 2

-- the end is known, and at most n
abbrev pub EndsBy : Option ℕ → ℕ → Type 0
EndsBy None n = ⊥
EndsBy (Some m) n = m ≤ n

-- what an interval says of n plies: yes from its end on, no below its beginning
abbrev pub Says : Bounds → ℕ → Bool → Type 0
Says i n true = EndsBy i.upto n
Says i n false = n < i.below

-- the interval is right of the question
abbrev pub IsKnownOf : Question → Bounds → Type 0
IsKnownOf q i = IsRight (entry_for q (bounds_of 0 None)) i

-- the reply is a hit that says so
abbrev pub RepliesThat : Probe → ℕ → Bool → Type 0
RepliesThat (Hit words) n answer = (e : Entry) × Packing e words × Says e.interval n answer
RepliesThat _ n answer = ⊥

-- the reply decides n plies
abbrev pub Settles : Probe → ℕ → Type 0
Settles reply n = (answer : Bool) × RepliesThat reply n answer

-- what an answer for n plies says
abbrev pub said : Bool → ℕ → Bounds
said true n = bounds_of 0 (Some n)
said false n = bounds_of (n + 1) None

-- an interval met with that of the reply, if it is a hit
abbrev pub IsMetWith : Probe → Bounds → Bounds → Type 0
IsMetWith (Hit words) i met = (e : Entry) × Packing e words × (met ≡ meeting i e.interval)
IsMetWith _ i met = met ≡ i

-- what a reply tells: the interval of a hit, and else nothing
abbrev pub Tells : Probe → Bounds → Type 0
Tells (Hit words) i = (e : Entry) → Packing e words → i ≡ e.interval
Tells _ i = i ≡ bounds_of 0 None
