-- The slot of one thread: what it holds, and which replies it may give.
use Rattle.std.specs.Prelude.{◌≡◌, ◌≢◌, ◌==◌, ℕ, ◌+◌, ◌-◌, ◌^◌, List, [], ◌∷◌, Bool, true, false, Option, Some, None}
use Rattle.std.specs.List.{filter}
use Rattle.slots.specs.declared.calls.Call.{Call}
use Rattle.slots.specs.declared.calls.Act.{Act}
use Rattle.slots.specs.declared.calls.Act.TheVariants.{Asked, Offered}
use Rattle.slots.specs.declared.calls.Probe as probe
use Rattle.slots.specs.declared.calls.Probe.TheVariants.{Hit, Vacant, Other}
use Rattle.slots.specs.declared.calls.Store as store
use Rattle.slots.specs.declared.calls.Store.TheVariants.{Stored, Worn, Kept}

-- what a table knows of words: their key, and whether old ones stay where new ones are offered
pub record Way : Type 0 where
  pub key : List ℕ → List ℕ
  pub prefers : List ℕ → List ℕ → Bool

-- what stands in the slot, and how many calls were answered Stored
pub record Machine : Type 0 where
  pub holds : Option (List ℕ)
  pub stores : ℕ

-- at first nothing stands there
abbrev pub fresh : Machine
fresh = record { holds = None; stores = 0 }

-- words that were stored stand there; no other reply changes anything
abbrev pub machine_after : Machine → Act → Machine
machine_after m (Offered words Stored) = record { holds = Some words; stores = m.stores + 1 }
machine_after m _ = m

-- The reply may be given where the machine stands. A hit, Vacant and Other say what stands there; Stored comes where nothing preferred stands, Kept where preferred words do; Busy comes at any time, and Worn after the most stores
abbrev pub MayReply : Way → Machine → Act → Type 0
MayReply way m (Asked k (Hit words)) = (m.holds ≡ Some words) × (way.key words ≡ k)
MayReply way m (Asked k Vacant) = m.holds ≡ None
MayReply way m (Asked k Other) = (words : List ℕ) × (m.holds ≡ Some words) × (way.key words ≢ k)
MayReply way m (Asked k probe.TheVariants.Busy) = Unit {0}
MayReply way m (Offered words Stored) = (r : List ℕ) → m.holds ≡ Some r → way.prefers r words ≡ false
MayReply way m (Offered words (Kept r)) = (m.holds ≡ Some r) × (way.prefers r words ≡ true)
MayReply way m (Offered words store.TheVariants.Busy) = Unit {0}
MayReply way m (Offered words Worn) = m.stores ≡ 2 ^ 63 - 1

-- the machine after the calls
abbrev pub run : Machine → List Call → Machine
run m [] = m
run m (c ∷ cs) = run (machine_after m c.act) cs

-- each reply is one that the machine may give there
abbrev pub Follows : Way → Machine → List Call → Type 0
Follows way m [] = Unit {0}
Follows way m (c ∷ cs) = MayReply way m c.act × Follows way (machine_after m c.act) cs

-- the history is a run of the slot of one thread, from nothing
abbrev pub IsLegal : Way → List Call → Type 0
IsLegal way history = Follows way fresh history

-- how many calls were answered Stored
abbrev pub stores : List Call → ℕ
stores history = (run fresh history).stores

-- what the history leaves
abbrev pub standing : List Call → Option (List ℕ)
standing history = (run fresh history).holds

-- the calls of one caller
abbrev pub calls_by : ℕ → List Call → List Call
calls_by number history = filter (λ c. c.by == number) history

-- the calls at one slot
abbrev pub part : ℕ → List Call → List Call
part slot history = filter (λ c. c.slot == slot) history

-- the call of this caller at this slot
abbrev pub call : ℕ → ℕ → Act → Call
call slot number act = record { slot = slot; by = number; act = act }

-- words that are stored may stand in a slot
abbrev pub StoresMeet : (List ℕ → Type 0) → Act → Type 0
StoresMeet meets (Offered words Stored) = meets words
StoresMeet meets _ = Unit {0}
