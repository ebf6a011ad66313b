-- Laws of entries.
use Rattle.std.specs.Prelude.{◌≡◌, ◌↔◌, ℕ, IsTrue, List}
use Rattle.entry.specs.declared.entries.Entry.{Entry}
use Rattle.entry.specs.Packing.{Packing}
use Rattle.entry.specs.Keys.{key_words, slot_number}
use Rattle.entry.specs.Truth.{IsRight, IsTruePacking}
use Rattle.entry.specs.Laws.{SameQuestion}
use Rattle.entry.specs.Prefers.{ArePreferred}
use Rattle.entry.specs.Preference.{mate_prefers}

-- no two entries have one packing
abbrev pub OneEntry : Type 0
OneEntry = (e f : Entry) (words : List ℕ) → Packing e words → Packing f words → e ≡ f

-- an entry has one packing
abbrev pub OnePacking : Type 0
OnePacking = (e : Entry) (words others : List ℕ) → Packing e words → Packing e others → words ≡ others

-- the key says what an entry asks
abbrev pub KeyIsQuestion : Type 0
KeyIsQuestion = (e f : Entry) (words others : List ℕ) → Packing e words → Packing f others → key_words words ≡ key_words others → SameQuestion e f

-- entries that ask the same have one key
abbrev pub QuestionIsKey : Type 0
QuestionIsKey = (e f : Entry) (words others : List ℕ) → Packing e words → Packing f others → SameQuestion e f → key_words words ≡ key_words others

-- a hit's words, with the key of what was asked, stand for an entry that asks the same, and its interval is right of what was asked
abbrev pub HitIsRight : Type 0
HitIsRight = (asked e : Entry) (words others : List ℕ) → Packing asked others → IsTruePacking words → key_words words ≡ key_words others → Packing e words → SameQuestion e asked × IsRight asked e.interval

-- the slot depends on the key alone
abbrev pub SlotOfKey : Type 0
SlotOfKey = (words : List ℕ) (slots : ℕ) → slot_number (key_words words) slots ≡ slot_number words slots

-- the test answers what is preferred
abbrev pub TestIsPreference : Type 0
TestIsPreference = (old new : List ℕ) → IsTrue (mate_prefers old new) ↔ ArePreferred old new
