-- The rule of the word that tells a place, and what the seats know that step on it.
use Rattle.std.specs.Prelude.{◌≡◌, ℕ, [], ◌∷◌}
use Rattle.atomic_table.specs.Table.{State, Me}
use Rattle.atomic_table.specs.Seated.{TableId}
use Rattle.atomic_table.specs.declared.shared.Seat.{Seat}
use Rattle.solver.specs.declared.listening.Place.{Place}
use Rattle.solver.specs.declared.place_word.PlaceView.{PlaceView}
use Rattle.solver.specs.Placing.{IsPlace, word_place}

-- a seat's view, by the place that it found and the one that the word stood for after its last step
abbrev pub place_view : Place → Place → PlaceView
place_view found told = record { found = found; told = told }

-- The rule: the one word stands for a place that a search can be at
pub record PlaceHolds (s : State (Unit {0}) PlaceView) : Type 0 where
  pub word : ℕ
  pub alone : s.words ≡ word ∷ []
  pub right : IsPlace (word_place word)

-- after a look the seat knows the place that was found
abbrev pub place_seen : Me (Unit {0}) PlaceView → ℕ → Me (Unit {0}) PlaceView → Type 0
place_seen m word m' = ((m'.0 ≡ place_view (word_place word) (word_place word)) × IsPlace (word_place word)) × (m'.1 ≡ m.1)

-- after a word is written the seat knows the place that it stands for
abbrev pub place_written : ℕ → Me (Unit {0}) PlaceView → Me (Unit {0}) PlaceView → Type 0
place_written word m m' = (m'.0 ≡ place_view m.0.found (word_place word)) × (m'.1 ≡ m.1)

-- the seat is one of this word's
abbrev pub IsPlaceSeatOf : TableId → Seat (Unit {0}) PlaceView → Type 0
IsPlaceSeatOf table seat = (seat.table_id ≡ table) × (seat.me.1 ≡ [])

-- the place that the seat found
abbrev pub found_place : Seat (Unit {0}) PlaceView → Place
found_place seat = seat.me.0.found

-- the place that the word stood for after the seat's last step
abbrev pub told_place : Seat (Unit {0}) PlaceView → Place
told_place seat = seat.me.0.told
