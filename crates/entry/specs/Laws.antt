-- Laws of entries.
use Rattle.std.specs.Prelude.{◌≡◌, ℕ, ◌+◌, Some, None}
use Rattle.rules.specs.Forces.{Forces}
use Rattle.entry.specs.Bounds.{Bounds, bounds_of, AreConsistent, meeting}
use Rattle.entry.specs.declared.entries.Entry.{Entry}
use Rattle.entry.specs.Truth.{IsRight}

-- two entries ask the same
pub record SameQuestion (e f : Entry) : Type 0 where
  pub position : e.position ≡ f.position
  pub attacker : e.attacker ≡ f.attacker
  pub goal : e.goal ≡ f.goal

-- two right intervals of one question can be met
abbrev pub RightAreConsistent : Type 0
RightAreConsistent = (e : Entry) (i j : Bounds) → IsRight e i → IsRight e j → AreConsistent i j

-- and what they say together is right
abbrev pub MeetingIsRight : Type 0
MeetingIsRight = (e : Entry) (i j : Bounds) → IsRight e i → IsRight e j → IsRight e (meeting i j)

-- what a search's yes and no say
abbrev pub YesIsRight : Type 0
YesIsRight = (e : Entry) (n : ℕ) → Forces e.goal e.attacker e.position n → IsRight e (bounds_of 0 (Some n))

abbrev pub NoIsRight : Type 0
NoIsRight = (e : Entry) (n : ℕ) → (Forces e.goal e.attacker e.position n → ⊥) → IsRight e (bounds_of (n + 1) None)
