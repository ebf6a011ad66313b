-- Within which limits a search is made.
use Rattle.std.specs.Prelude.{◌≡◌, Option, None, MatchOption, Result, Ok, Err}
use Rattle.searcher.specs.Limits.{limits_fault}
use Rattle.searcher.specs.declared.fault.SolveFault.{SolveFault}
use Rattle.searcher.specs.declared.fault.SolveFault.TheVariants as solve
use Rattle.command_line.specs.declared.line.Limits.{Limits}
use Rattle.refusals.specs.declared.refusal.Refusal.{Refusal}
use Rattle.refusals.specs.declared.refusal.Refusal.TheVariants.{Limit, Workers, Slots, NoMemory}

-- the refusal of each fault of a solve
abbrev pub refusal_of_solve : SolveFault → Refusal
refusal_of_solve solve.Limit = Limit
refusal_of_solve solve.Workers = Workers
refusal_of_solve solve.Slots = Slots
refusal_of_solve solve.NoMemory = NoMemory

-- the first of these values that is refused, if one is
abbrev pub fault_of : Limits → Option SolveFault
fault_of limits = limits_fault limits.limit limits.workers limits.slots

-- the refusal of the first of these values that isn't taken; where all are, want of memory
abbrev pub IsRefusedWithin : Limits → Refusal → Type 0
IsRefusedWithin limits refusal = MatchOption (fault_of limits) (refusal ≡ NoMemory) (λ fault. refusal ≡ refusal_of_solve fault)

-- for values of any size: what is found where all are taken, or why nothing is
abbrev pub FindsWithin : {X : Type 0} → Limits → (X → Type 0) → Result X Refusal → Type 0
FindsWithin limits Is (Ok found) = (fault_of limits ≡ None) × Is found
FindsWithin limits Is (Err refusal) = IsRefusedWithin limits refusal
