-- The seats of those who search over one table.
use Rattle.std.specs.Prelude.{◌≡◌, ℕ, ◌<◌, ◌≤◌, List, length, All}
use Rattle.atomic_table.specs.Seated.{TableId}
use Rattle.atomic_table.specs.declared.shared.Seat.{Seat}
use Rattle.slots.specs.declared.views.View.{View}
use Rattle.slots.specs.Promise.{IsSeatOf}

-- so many seats of the table
abbrev pub AreSeats : TableId → ℕ → List (Seat ℕ View) → Type 0
AreSeats table count seats = (length seats ≡ count) × All (IsSeatOf table) seats

-- seats of the table for 1 to 17 threads
abbrev pub AreCallers : TableId → List (Seat ℕ View) → Type 0
AreCallers table seats = (0 < length seats) × (length seats ≤ 17) × All (IsSeatOf table) seats
