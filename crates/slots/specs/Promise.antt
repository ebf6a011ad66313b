-- What a probe and a store promise.
use Rattle.std.specs.Prelude.{◌≡◌, ◌≢◌, ◌⊎◌, ℕ, ◌+◌, ◌*◌, ◌/◌, ◌%◌, ◌<◌, ◌≤◌, Bool, true, List, [], ◌∷◌, ◌++◌, length, slice_get, Some}
use mathlib.Core.Option as option
use lib.ListN.{get_elem?}
use Rattle.atomic_table.specs.Table.{State}
use Rattle.atomic_table.specs.Seated.{TableId}
use Rattle.atomic_table.specs.declared.shared.Seat.{Seat}
use Rattle.slots.specs.declared.calls.Call.{Call}
use Rattle.slots.specs.declared.calls.Act.{Act}
use Rattle.slots.specs.declared.views.Note.{Note}
use Rattle.slots.specs.declared.views.Half.TheVariants.{Idle}
use Rattle.slots.specs.declared.views.View.{View}
use Rattle.slots.specs.Machine.{Way, IsLegal, stores, calls_by, part, call}
use Rattle.slots.specs.Rule.{note, blank, StartsWith, way_at, gate_at, words_at, TableHolds}
use Rattle.slots.specs.Steps.{Adds, Recalls}

-- how many slots a table has
abbrev pub slots_of : TableId → ℕ
slots_of table = table.words / 4

-- the caller's number
abbrev pub number : Seat ℕ View → ℕ
number seat = seat.me.0.number

-- two numbers that the gate of the slot had
abbrev pub known : ℕ → Seat ℕ View → Note
known slot seat = note slot seat.me.0.notes

-- a beginning of the table's history that holds all that the caller has learnt
abbrev pub all_seen : Seat ℕ View → List Call
all_seen seat = seat.me.0.seen

-- the caller's own calls, at all slots in their order
abbrev pub all_mine : Seat ℕ View → List Call
all_mine seat = seat.me.0.mine

-- their parts at one slot
abbrev pub seen : ℕ → Seat ℕ View → List Call
seen slot seat = part slot (all_seen seat)

abbrev pub mine : ℕ → Seat ℕ View → List Call
mine slot seat = part slot (all_mine seat)

abbrev pub steps : Seat ℕ View → ℕ
steps seat = seat.me.0.steps

-- the seat is in a call
abbrev pub IsTaken : TableId → Seat ℕ View → Type 0
IsTaken table seat = (seat.table_id ≡ table) × (seat.me.1 ≡ []) × (seat.me.0.seated ≡ true) × (4 * length seat.me.0.notes ≡ table.words)

-- the seat is one that the table handed out
abbrev pub IsSeatOf : TableId → Seat ℕ View → Type 0
IsSeatOf table seat = IsTaken table seat × (seat.me.0.half ≡ Idle)

-- The slot's history after a call is legal, begins with all that had been seen of it, and ends with the call. Of the caller's calls there it has all, each once
pub record AddsHere (way : Way) (slot number : ℕ) (act : Act) (learnt own learnt' own' : List Call) : Type 0 where
  pub between : List Call
  pub seen : learnt' ≡ (learnt ++ between) ++ call slot number act ∷ []
  pub legal : IsLegal (way_at slot way) learnt'
  pub mine : own' ≡ own ++ call slot number act ∷ []
  pub once : calls_by number learnt' ≡ own'

-- at another slot the caller made no call, and may have learnt of calls
pub record Stays (way : Way) (k : ℕ) (before after : Seat ℕ View) : Type 0 where
  pub mine : mine k after ≡ mine k before
  pub legal : IsLegal (way_at k way) (seen k after)
  pub seen : StartsWith (seen k after) (seen k before)
  pub known : known k after ≡ known k before

-- A call that is added at one slot is added to that slot's part, and to no other
abbrev pub AddsToOne : List Call → Call → Type 0
AddsToOne history c = (part c.slot (history ++ c ∷ []) ≡ part c.slot history ++ c ∷ []) × ((k : ℕ) → k ≢ c.slot → part k (history ++ c ∷ []) ≡ part k history)

-- What two seated callers have seen begins one list: one of the two begins the other
abbrev pub InOneOrder : Way → (List ℕ → Type 0) → ℕ → Type 0
InOneOrder way meets slots = (s : State ℕ View) → TableHolds way meets slots s → (i j : ℕ) (v w : View) → get_elem? s.views i ≡ option.some v → get_elem? s.views j ≡ option.some w
    → v.seated ≡ true → w.seated ≡ true → StartsWith v.seen w.seen ⊎ StartsWith w.seen v.seen

-- The table of the seat was given up: its words met the rule at the end, with the view of the seat, and these are four of them, those of the slot
pub record GivenUp (way : Way) (meets : List ℕ → Type 0) (table : TableId) (seat : Seat ℕ View) (slot : ℕ) (found : List ℕ) : Type 0 where
  pub state : State ℕ View
  pub whose : seat.table_id ≡ table
  pub wide : length state.words ≡ table.words
  pub rule : TableHolds way meets (slots_of table) state
  pub view : get_elem? state.views seat.id ≡ option.some seat.me.0
  pub words : found ≡ gate_at slot state.words ∷ words_at slot state.words

-- what `make` takes
abbrev pub IsSize : ℕ → ℕ → Type 0
IsSize slots callers = (0 < slots) × (slots ≤ 1048576) × (0 < callers) × (callers ≤ 17)

-- a table's way, by the two functions of its lore
abbrev pub way_of : (List ℕ → List ℕ) → (List ℕ → List ℕ → Bool) → Way
way_of key prefers = record { key = key; prefers = prefers }

-- one call was added to the table's history, at the slot
pub record Called (way : Way) (slot : ℕ) (act : Act) (before after : Seat ℕ View) : Type 0 where
  pub same : number after ≡ number before
  pub whole : Adds way slot (number before) act (all_seen before) (all_mine before) (all_seen after) (all_mine after)
  pub call : AddsHere way slot (number before) act (seen slot before) (mine slot before) (seen slot after) (mine slot after)
  pub others : (k : ℕ) → k ≢ slot → Stays way k before after

-- The gate of the slot had the number: it rises by one at a time, and has come so far wherever the rule holds with what the seat knows
abbrev pub GateHad : Way → (List ℕ → Type 0) → TableId → ℕ → Seat ℕ View → ℕ → Type 0
GateHad way meets table slot seat n = (s : State ℕ View) → TableHolds way meets (slots_of table) s → get_elem? s.views seat.id ≡ option.some seat.me.0 → seat.me.0.seated ≡ true
    → n ≤ gate_at slot s.words

-- A store had been begun that the caller hadn't seen done: the gate had the number low, and then high
abbrev pub HasCause : Way → (List ℕ → Type 0) → TableId → ℕ → Seat ℕ View → Seat ℕ View → Type 0
HasCause way meets table slot before after = let low = (known slot after).low in let high = (known slot after).high in
    (2 * stores (seen slot before) ≤ low) × (low ≤ high) × ((low % 2 ≡ 1) ⊎ (low < high)) × (stores (seen slot after) ≡ high / 2)
    × GateHad way meets table slot after low × GateHad way meets table slot after high

-- what the caller has seen is legal at each slot, and has all of its own calls, each once and in their order
abbrev pub KnowsHistory : Way → Seat ℕ View → Type 0
KnowsHistory way seat = Recalls way seat.me.0

-- a seat that has seen and called nothing, the k-th of those that the table handed out
abbrev pub IsNew : TableId → ℕ → Seat ℕ View → Type 0
IsNew table k seat = IsSeatOf table seat × (number seat ≡ k + 1) × (all_seen seat ≡ []) × (all_mine seat ≡ []) × ((slot : ℕ) → known slot seat ≡ blank)

abbrev pub AllNew : TableId → List (Seat ℕ View) → Type 0
AllNew table seats = (k : ℕ) (seat : Seat ℕ View) → slice_get seats k ≡ Some seat → IsNew table k seat

-- What lasts over calls: the caller's own calls grow at their end, and what has been seen begins what is seen later
pub record Grew (before after : Seat ℕ View) : Type 0 where
  pub more : List Call
  pub mine : all_mine after ≡ all_mine before ++ more
  pub seen : StartsWith (all_seen after) (all_seen before)
