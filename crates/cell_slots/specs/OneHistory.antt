-- One history of a slot: it is legal by the slot of one thread, which the lock-free slots go by too.
use Rattle.std.specs.Prelude.{◌≡◌, ℕ, ◌≤◌, List, [], length, true, false}
use mathlib.Core.Option.{some}
use lib.ListN.{get_elem?}
use Rattle.slots.specs.declared.calls.Call.{Call}
use Rattle.slots.specs.Machine.{Way, IsLegal, StoresMeet, calls_by}
use Rattle.slots.specs.Rule.{StartsWith}
use Rattle.cell_slots.specs.declared.views.View.{View}

-- each slot takes what it is offered
abbrev pub taking : (List ℕ → List ℕ) → Way
taking key = record { key = key; prefers = λ _ _. false }

-- what a seated caller has seen is a beginning of the history, and its own calls are all that the history has of it
abbrev pub FitsCaller : List Call → ℕ → View → Type 0
FitsCaller calls by v = v.seated ≡ true → StartsWith calls v.seen × (calls_by by calls ≡ v.mine)

-- These calls are one legal history. It begins with what each seated caller has seen, and has that caller's calls, each once and in its order
pub record OneHistory (key : List ℕ → List ℕ) (meets : List ℕ → Type 0) (calls : List Call) (views : List View) : Type 0 where
  pub legal : IsLegal (taking key) calls
  pub lore : (k : ℕ) (c : Call) → get_elem? calls k ≡ some c → StoresMeet meets c.act
  pub callers : (by : ℕ) (v : View) → get_elem? views by ≡ some v → FitsCaller calls by v
  pub no_others : (by : ℕ) → length views ≤ by → calls_by by calls ≡ []
