-- A table of slots and its seats, as contracts see them.
use Rattle.std.specs.Prelude.{◌≡◌, ◌≢◌, ℕ, ◌≤◌, List, [], slice_index_or}
use Rattle.atomic_table.specs.Seated.{TableId}
use Rattle.slots.specs.declared.calls.Act.{Act}
use Rattle.slots.specs.declared.calls.Call.{Call}
use Rattle.slots.specs.Rule.{longer}
use Rattle.slots.specs.Promise.{AddsHere}
use Rattle.cell_slots.specs.OneHistory.{taking}

-- what no other table shares with this one
abbrev pub Name : Type 0
Name = List TableId

-- a table: its name, and how many slots it has
pub record Slotted : Type 0 where
  pub table : Name
  pub len : ℕ

-- a caller's number at a slot, the beginning of the history that it has seen, and its own calls
pub record Part : Type 0 where
  pub by : ℕ
  pub seen : List Call
  pub mine : List Call

-- a seat: its table's name, and what its caller knows of each slot
pub record Seated : Type 0 where
  pub table : Name
  pub parts : List Part

-- of a slot that isn't there nothing is known
abbrev pub nobody_yet : Part
nobody_yet = record { by = 0; seen = []; mine = [] }

-- what a caller knows of the slot i
abbrev pub part_at : Seated → ℕ → Part
part_at s i = slice_index_or s.parts i nobody_yet

-- the caller made this one call more
pub record AddsCall (key : List ℕ → List ℕ) (slot : ℕ) (act : Act) (v w : Part) : Type 0 where
  pub same : w.by ≡ v.by
  pub call : AddsHere (taking key) slot v.by act v.seen v.mine w.seen w.mine

-- the caller made this one call more at this slot, and none at another
pub record Calls (key : List ℕ → List ℕ) (slot : ℕ) (act : Act) (old new : Seated) : Type 0 where
  pub here : AddsCall key slot act (part_at old slot) (part_at new slot)
  pub others : (i : ℕ) → i ≢ slot → part_at new i ≡ part_at old i

-- the caller has then seen the longer of the two
abbrev pub told_part : Part → Part → Part
told_part v w = record { by = v.by; seen = longer v.seen w.seen; mine = v.mine }

-- a caller is told of each slot what another has seen, and makes no call
abbrev pub IsToldOf : Seated → Seated → Seated → Type 0
IsToldOf old other new = (i : ℕ) → part_at new i ≡ told_part (part_at old i) (part_at other i)

-- a caller of this table that has seen nothing and made no call
abbrev pub IsNewSeat : Slotted → Seated → Type 0
IsNewSeat t s = (s.table ≡ t.table) × ((i : ℕ) → ((part_at s i).seen ≡ []) × ((part_at s i).mine ≡ []))

-- the numbers of slots and of callers that a table may have
abbrev pub IsPlainSize : ℕ → ℕ → Type 0
IsPlainSize slots callers = (1 ≤ slots) × (slots ≤ 64) × (1 ≤ callers) × (callers ≤ 17)
