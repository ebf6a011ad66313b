-- What a solve by workers accepts.
use Rattle.std.specs.Prelude.{◌≡◌, ◌⊎◌, ℕ, nat_lt, ◌||◌, Option, None, Some, if◌then◌else◌}
use Rattle.searcher.specs.declared.fault.SolveFault.{SolveFault}
use Rattle.searcher.specs.declared.fault.SolveFault.TheVariants.{Limit, Workers, Slots, NoMemory}

-- the first fault of the numbers of a table: workers outside 1 to 16, slots outside 1 to 1,048,576
abbrev pub table_fault : ℕ → ℕ → Option SolveFault
table_fault workers slots =
    if nat_lt workers 1 || nat_lt 16 workers then Some Workers
    else (if nat_lt slots 1 || nat_lt 1048576 slots then Some Slots else None)

-- the first fault of these values: a limit outside 1 to 63 plies, or else the table's
abbrev pub limits_fault : ℕ → ℕ → ℕ → Option SolveFault
limits_fault limit workers slots =
    if nat_lt limit 1 || nat_lt 63 limit then Some Limit else table_fault workers slots

-- why a call whose first fault is this one is refused: memory, where it has none, or else that fault
abbrev pub IsRefusedBy : Option SolveFault → SolveFault → Type 0
IsRefusedBy first fault = ((fault ≡ NoMemory) × (first ≡ None)) ⊎ (first ≡ Some fault)

-- why a solve with these values is refused
abbrev pub IsRefusal : ℕ → ℕ → ℕ → SolveFault → Type 0
IsRefusal limit workers slots fault = IsRefusedBy (limits_fault limit workers slots) fault
