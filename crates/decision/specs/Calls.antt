-- A caller of the table, and the calls that it adds to the history.
use Rattle.std.specs.Prelude.{◌≡◌, ℕ, List, ◌∷◌, [], ◌++◌, length, drop, All}
use Rattle.std.specs.List.{AllZip}
use Rattle.atomic_table.specs.Seated.{TableId}
use Rattle.atomic_table.specs.declared.shared.Seat.{Seat}
use Rattle.slots.specs.declared.views.View.{View}
use Rattle.slots.specs.declared.calls.Call.{Call}
use Rattle.slots.specs.declared.calls.Act.{Act}
use Rattle.slots.specs.Machine.{Way, IsLegal, calls_by, part, call}
use Rattle.slots.specs.Rule.{way_at}
use Rattle.slots.specs.Steps.{HitFits}
use Rattle.slots.specs.Promise.{way_of, number, all_seen, all_mine, seen, IsSeatOf, Grew}
use Rattle.entry.specs.Keys.{key_words}
use Rattle.entry.specs.Preference.{mate_prefers}
use Rattle.entry.specs.Truth.{IsTruePacking}

-- what the table knows of entries
abbrev pub mate_way : Way
mate_way = way_of key_words mate_prefers

-- the calls that the caller has added, in its order
abbrev pub added : Seat ℕ View → Seat ℕ View → List Call
added before after = drop (length (all_mine before)) (all_mine after)

-- At the slot this act of the caller is the first of the calls
abbrev pub BeginsWith : ℕ → ℕ → Act → List Call → Type 0
BeginsWith slot number act calls = (rest : List Call) × (part slot calls ≡ call slot number act ∷ rest)

-- at the slot it is the last
abbrev pub EndsWith : ℕ → ℕ → Act → List Call → Type 0
EndsWith slot number act calls = (start : List Call) × (part slot calls ≡ start ++ call slot number act ∷ [])

-- a probe's hit is one whole entry, which is true, and has the key that was asked
abbrev pub AreHitsTrue : List Call → Type 0
AreHitsTrue calls = All (λ c. HitFits key_words IsTruePacking c.act) calls

-- The history as the caller knows it: at each slot it is legal, and of the caller's own calls it has all, each once and in their order
pub record KnowsCalls (seat : Seat ℕ View) : Type 0 where
  pub legal : (slot : ℕ) → IsLegal (way_at slot mate_way) (seen slot seat)
  pub once : calls_by (number seat) (all_seen seat) ≡ all_mine seat

-- The seat of one caller, before and after some calls: it is a seat of the table still, its calls grow, their hits are true, and what it knew of the history stays whole
pub record Continues (table : TableId) (before after : Seat ℕ View) : Type 0 where
  pub seat : IsSeatOf table after
  pub id : after.id ≡ before.id
  pub number : number after ≡ number before
  pub grew : Grew before after
  pub hits : AreHitsTrue (added before after)
  pub history : KnowsCalls before → KnowsCalls after

-- each of these seats continues, from the one with its number
abbrev pub SeatsContinue : TableId → List (Seat ℕ View) → List (Seat ℕ View) → Type 0
SeatsContinue table before after = AllZip (Continues table) before after
