-- What a gate does to a seat.
use Rattle.std.specs.Prelude.{ℕ}
use Rattle.atomic_table.specs.Seated.{TableId}
use Rattle.atomic_table.specs.declared.shared.Seat.{Seat}
use Rattle.slots.specs.declared.views.View.{View}
use Rattle.slots.specs.Promise.{IsSeatOf}
use Rattle.decision.specs.Calls.{Continues}

-- the gate's calls are such that a seat continues in them
abbrev pub KeepsOn : (TableId → Seat ℕ View → Seat ℕ View → Type 0) → TableId → Type 0
KeepsOn keeps table = (before after : Seat ℕ View) → IsSeatOf table before → keeps table before after → Continues table before after
