-- The rule that holds between any two atomic steps. Of one slot it has three passes: the gate alone, the claim and the written words, and half-done reads.
use Rattle.std.specs.Prelude.{◌≡◌, ℕ, ◌+◌, ◌*◌, ◌/◌, ◌%◌, ◌<◌, ◌≤◌, Bool, true, false, nat_lt, List, [], ◌∷◌, ◌++◌, length, take, map, replicate, slice_index, slice_index_or, Option, Some, None, if◌then◌else◌, ◌==◌}
use mathlib.Core.Option as option
use lib.ListN.{get_elem?}
use Rattle.atomic_table.specs.Table.{State}
use Rattle.slots.specs.declared.calls.Call.{Call}
use Rattle.slots.specs.declared.views.Note.{Note}
use Rattle.slots.specs.declared.views.Half.{Half}
use Rattle.slots.specs.declared.views.Half.TheVariants.{Idle, Reading, Writing}
use Rattle.slots.specs.declared.views.View.{View}
use Rattle.slots.specs.Machine.{Way, IsLegal, StoresMeet, stores, standing, calls_by, part}

-- the calls that were seen are a beginning of the history
abbrev pub StartsWith : List Call → List Call → Type 0
StartsWith history seen = (rest : List Call) × (history ≡ seen ++ rest)

-- three zeros stand for nothing
abbrev pub words_of : Option (List ℕ) → List ℕ
words_of None = 0 ∷ 0 ∷ 0 ∷ []
words_of (Some words) = words

-- what a seat knows of one slot: two numbers of its gate, and the call that is half done there
pub record Glance : Type 0 where
  pub seated : Bool
  pub note : Note
  pub half : Half

-- the fact holds of each seat, by its number
abbrev pub EachSeat : List Glance → (ℕ → Glance → Type 0) → Type 0
EachSeat seats P = (seat : ℕ) (g : Glance) → get_elem? seats seat ≡ option.some g → P seat g

-- the gate had the two numbers, in this order
abbrev pub Had : ℕ → Note → Type 0
Had gate note = (note.low ≤ note.high) × (note.high ≤ gate)

-- the gate had the even number that a half-done call read first
abbrev pub Passed : ℕ → Half → Type 0
Passed gate Idle = Unit {0}
Passed gate (Reading at got) = (at % 2 ≡ 0) × (at ≤ gate)
Passed gate (Writing at stood put) = Unit {0}

-- First pass, the gate alone: half of it is the number of stores, and what a seat says of its numbers is so
pub record GateHolds (history : List Call) (gate : ℕ) (seats : List Glance) : Type 0 where
  pub counted : stores history ≡ gate / 2
  pub had : EachSeat seats (λ _ g. g.seated ≡ true → Had gate g.note)
  pub passed : EachSeat seats (λ _ g. Passed gate g.half)

-- A seat that writes is the one that holds the claim, under the odd gate. The words that it has written stand, and three words that it read before are what the history leaves
abbrev pub Claims : ℕ → List ℕ → List ℕ → ℕ → ℕ → Half → Type 0
Claims gate words holds writer seat Idle = Unit {0}
Claims gate words holds writer seat (Reading at got) = Unit {0}
Claims gate words holds writer seat (Writing at stood put) = (at % 2 ≡ 1) × (at ≡ gate) × (seat ≡ writer) × (put ≡ take (length put) words) × (length stood ≡ 3 → stood ≡ holds)

-- Second pass, the claim and the written words: at rest the words are what the history leaves, and each entry that was stored may stand there
pub record ClaimHolds (meets : List ℕ → Type 0) (history : List Call) (gate : ℕ) (words : List ℕ) (seats : List Glance) : Type 0 where
  pub writer : ℕ
  pub at_rest : gate % 2 ≡ 0 → words ≡ words_of (standing history)
  pub lore : (k : ℕ) (c : Call) → get_elem? history k ≡ option.some c → StoresMeet meets c.act
  pub claims : EachSeat seats (λ seat g. Claims gate words (words_of (standing history)) writer seat g.half)

-- the words that were read so far still stand, or the gate has passed the number that was read first
abbrev pub StillRead : ℕ → List ℕ → Half → Type 0
StillRead gate words Idle = Unit {0}
StillRead gate words (Reading at got) = at ≡ gate → got ≡ take (length got) words
StillRead gate words (Writing at stood put) = Unit {0}

-- Third pass, half-done reads: they are whole as long as the gate hasn't moved, and so each reply is one that the slot of one thread may give
pub record ReadsHold (way : Way) (history : List Call) (gate : ℕ) (words : List ℕ) (seats : List Glance) : Type 0 where
  pub legal : IsLegal way history
  pub read : EachSeat seats (λ _ g. StillRead gate words g.half)

-- the rule of one slot, whose calls are the history
pub record SlotHolds (way : Way) (meets : List ℕ → Type 0) (history : List Call) (gate : ℕ) (words : List ℕ) (seats : List Glance) : Type 0 where
  pub numbers : GateHolds history gate seats
  pub claim : ClaimHolds meets history gate words seats
  pub reads : ReadsHold way history gate words seats

-- what a seated caller has seen begins the table's history, and its calls there are its own. All of them stand in what it has seen
pub record Fits (history : List Call) (seat : ℕ) (v : View) : Type 0 where
  pub seen : StartsWith history v.seen
  pub mine : calls_by seat history ≡ v.mine
  pub once : calls_by seat v.seen ≡ v.mine

-- words are preferred in slots of even number alone
abbrev pub way_at : ℕ → Way → Way
way_at k way = record { key = way.key; prefers = λ r w. if k % 2 == 0 then way.prefers r w else false }

-- a seat's two numbers of a gate that it never read
abbrev pub blank : Note
blank = record { low = 0; high = 0 }

-- the two numbers of the gate of the slot k
abbrev pub note : ℕ → List Note → Note
note k notes = slice_index_or notes k blank

-- what a seat knows of the slot k
abbrev pub glance : ℕ → View → Glance
glance k v = record { seated = v.seated; note = note k v.notes; half = if v.slot == k then v.half else Idle }

-- the gate of the slot k, which has four words of the table
abbrev pub gate_at : ℕ → List ℕ → ℕ
gate_at k words = slice_index words (4 * k)

-- the entry of the slot k
abbrev pub words_at : ℕ → List ℕ → List ℕ
words_at k words = slice_index words (4 * k + 1) ∷ slice_index words (4 * k + 2) ∷ slice_index words (4 * k + 3) ∷ []

-- The rule of the table: there is one history, which fits each seated caller, and whose part at each slot fits that slot
pub record TableHolds (way : Way) (meets : List ℕ → Type 0) (slots : ℕ) (s : State ℕ View) : Type 0 where
  pub history : List Call
  pub wide : length s.words ≡ 4 * slots
  pub numbers : (seat : ℕ) (v : View) → get_elem? s.views seat ≡ option.some v → (v.seated ≡ true → v.number ≡ seat) × (0 < v.deals → (seat ≡ 0) × (v.deals ≡ length s.views))
  pub each_seat : (seat : ℕ) (v : View) → get_elem? s.views seat ≡ option.some v → v.seated ≡ true → Fits history seat v
  pub strangers : (seat : ℕ) → length s.views ≤ seat → calls_by seat history ≡ []
  pub beyond : (k : ℕ) → slots ≤ k → part k history ≡ []
  pub each_slot : (k : ℕ) → k < slots → SlotHolds (way_at k way) meets (part k history) (gate_at k s.words) (words_at k s.words) (map (glance k) s.views)

-- the first seat, which deals the others
abbrev pub dealer : ℕ → View
dealer slots = record { number = 0; seated = true; seen = []; mine = []; notes = replicate slots blank; slot = 0; half = Idle; steps = 0; deals = 1 }

-- the first seat, after it dealt one more
abbrev pub after_dealing : View → View
after_dealing v = record { number = v.number; seated = v.seated; seen = v.seen; mine = v.mine; notes = v.notes; slot = v.slot; half = v.half; steps = v.steps + 1; deals = v.deals + 1 }

-- a seat that has seen nothing
abbrev pub dealt : View → View
dealt v = record { number = v.deals; seated = true; seen = []; mine = []; notes = map (λ _. blank) v.notes; slot = 0; half = Idle; steps = 0; deals = 0 }

-- a seat that was spent
abbrev pub nobody : View
nobody = record { number = 0; seated = false; seen = []; mine = []; notes = []; slot = 0; half = Idle; steps = 0; deals = 0 }

-- the longer of what two have seen
abbrev pub longer : List Call → List Call → List Call
longer xs ys = if nat_lt (length xs) (length ys) then ys else xs

-- a seat that was told what another had seen
abbrev pub after_telling : View → View → View
after_telling v w = record { number = v.number; seated = v.seated; seen = longer v.seen w.seen; mine = v.mine; notes = v.notes; slot = v.slot; half = v.half; steps = v.steps + 1; deals = v.deals }
