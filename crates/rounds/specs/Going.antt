-- How a thread's seat goes on in a solve.
use Rattle.std.specs.Prelude.{ℕ, List}
use Rattle.std.specs.List.{AllZip}
use Rattle.atomic_table.specs.Seated.{TableId}
use Rattle.atomic_table.specs.declared.shared.Seat.{Seat}
use Rattle.slots.specs.declared.views.View.{View}
use Rattle.slots.specs.Promise.{IsSeatOf}
use Rattle.decision.specs.Calls.{Continues, SeatsContinue}
use Rattle.searcher.specs.Gates.{KeepsOn}
use Rattle.rounds.specs.declared.share.Share.{Share}

-- The seat goes on by calls of two kinds, in any order: the search's own, by which it continues, and the gate's, which keep what the gate says
pub data SeatGoesOn (keeps : TableId → Seat ℕ View → Seat ℕ View → Type 0) (table : TableId) : Seat ℕ View → Seat ℕ View → Type 0 where
  searched : {before after : Seat ℕ View} → Continues table before after → SeatGoesOn keeps table before after
  called : {before after : Seat ℕ View} → IsSeatOf table before → keeps table before after → SeatGoesOn keeps table before after
  onward : {before between after : Seat ℕ View} → SeatGoesOn keeps table before between → SeatGoesOn keeps table between after → SeatGoesOn keeps table before after

-- each of these seats goes on, from the one with its number
abbrev pub SeatsGoOn : (TableId → Seat ℕ View → Seat ℕ View → Type 0) → TableId → List (Seat ℕ View) → List (Seat ℕ View) → Type 0
SeatsGoOn keeps table before after = AllZip (SeatGoesOn keeps table) before after

-- so does the seat of each share
abbrev pub EachGoesOn : {J : Type 0} → (TableId → Seat ℕ View → Seat ℕ View → Type 0) → TableId → List (Share J) → List (Share J) → Type 0
EachGoesOn keeps table before after = AllZip (λ a b. SeatGoesOn keeps table a.seat b.seat) before after

-- where the gate's calls are such, the seats that go on continue
abbrev pub KeptSeatsGoOn : (TableId → Seat ℕ View → Seat ℕ View → Type 0) → TableId → Type 0
KeptSeatsGoOn keeps table = KeepsOn keeps table → (before after : List (Seat ℕ View)) → SeatsGoOn keeps table before after → SeatsContinue table before after
