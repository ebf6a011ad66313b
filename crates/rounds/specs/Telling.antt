-- How a thread goes on whose decisions a gate is told.
use Rattle.std.specs.Prelude.{◌≡◌, ℕ}
use Rattle.atomic_table.specs.Seated.{TableId}
use Rattle.atomic_table.specs.declared.shared.Seat.{Seat}
use Rattle.slots.specs.declared.views.View.{View}
use Rattle.slots.specs.Promise.{IsSeatOf}
use Rattle.rounds.specs.declared.gated.Gated.{Gated}
use Rattle.rounds.specs.Going.{SeatGoesOn}

-- a thread's decisions, and later: its table and its seat are the same, and its seat goes on
pub record TellsOn {T : Type 0} (keeps : TableId → Seat ℕ View → Seat ℕ View → Type 0) (before after : Gated T) : Type 0 where
  pub table : after.slots.now ≡ before.slots.now
  pub seat : after.seat.ghost_name ≡ before.seat.ghost_name
  pub calls : IsSeatOf before.slots.now before.seat.now → SeatGoesOn keeps before.slots.now before.seat.now after.seat.now
  pub still : IsSeatOf before.slots.now before.seat.now → IsSeatOf after.slots.now after.seat.now
