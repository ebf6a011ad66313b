-- The seats of a round's word.
use Rattle.std.specs.Prelude.{◌≡◌, ℕ, List, length, All}
use Rattle.atomic_table.specs.declared.shared.Seat.{Seat}
use Rattle.jobs.specs.declared.views.JobView.{JobView}
use Rattle.jobs.specs.JobBoard.{JobBoard}
use Rattle.jobs.specs.Promise.{IsJobSeatOf}

-- so many seats of the round's word
abbrev pub AreJobSeats : {W : Type 0} → JobBoard W → ℕ → List (Seat (Unit {0}) (JobView W)) → Type 0
AreJobSeats board count seats = (length seats ≡ count) × All (IsJobSeatOf board) seats
