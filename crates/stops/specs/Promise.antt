-- What contracts say of the requests and their seats.
use Rattle.std.specs.Prelude.{◌≡◌, ℕ, ◌+◌, ◌%◌, ◌≤◌, min, Bool, true, []}
use mathlib.Core.Option as option
use lib.ListN.{get_elem?}
use Rattle.atomic_table.specs.Table.{State}
use Rattle.atomic_table.specs.Seated.{TableId}
use Rattle.atomic_table.specs.declared.shared.Seat.{Seat}
use Rattle.stops.specs.declared.views.RequestView.{RequestView}
use Rattle.stops.specs.Rule.{RequestsHold}

-- how many requests the seat knows of
abbrev pub requests : Seat (Unit {0}) RequestView → ℕ
requests seat = seat.me.0.requests

-- whether it is the seat that makes them
abbrev pub asks : Seat (Unit {0}) RequestView → Bool
asks seat = seat.me.0.asks

-- the seat is one of this word's
abbrev pub IsSeatIn : TableId → Seat (Unit {0}) RequestView → Type 0
IsSeatIn table seat = (seat.table_id ≡ table) × (seat.me.1 ≡ [])

-- it is the one that makes the requests
abbrev pub IsAsker : TableId → Seat (Unit {0}) RequestView → Type 0
IsAsker table seat = IsSeatIn table seat × (asks seat ≡ true)

-- the last request that it knows of is one for a stop: these have the odd numbers
abbrev pub WantsStop : Seat (Unit {0}) RequestView → Type 0
WantsStop seat = requests seat % 2 ≡ 1

-- so many requests there are once a stop is asked for: one more, unless the last is one for a stop
abbrev pub after_stop : ℕ → ℕ
after_stop n = n + (n + 1) % 2

-- so many there are once it is asked to go on: one more, if the last is one for a stop, up to 2^64 - 1
abbrev pub after_go_on : ℕ → ℕ
after_go_on n = min (n + n % 2) 18446744073709551615

-- of what any seat knows, the seat that asks has made it
abbrev pub AreMade : State (Unit {0}) RequestView → Type 0
AreMade s = RequestsHold s → (i j : ℕ) (v w : RequestView) → get_elem? s.views i ≡ option.some v → get_elem? s.views j ≡ option.some w → w.asks ≡ true → v.requests ≤ w.requests
