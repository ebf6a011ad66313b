-- The rule that holds between any two atomic steps, and what the two kinds of step tell.
use Rattle.std.specs.Prelude.{◌≡◌, ℕ, ◌≤◌, Bool, true, false, [], ◌∷◌}
use mathlib.Core.Option as option
use lib.ListN.{get_elem?}
use Rattle.atomic_table.specs.Table.{State, Me}
use Rattle.stops.specs.declared.views.RequestView.{RequestView}

-- a seat's view, by how many requests it knows of and whether it makes them
abbrev pub request_view : ℕ → Bool → RequestView
request_view requests asks = record { requests = requests; asks = asks }

-- the view of a seat that hears
abbrev pub hearing_view : RequestView → RequestView
hearing_view v = request_view v.requests false

-- What a seat knows while so many requests were made: of no more than these, and the one seat that makes them of all
pub record FitsRequests (asker made seat : ℕ) (v : RequestView) : Type 0 where
  pub past : v.requests ≤ made
  pub whole : v.asks ≡ true → v.requests ≡ made
  pub one : v.asks ≡ true → seat ≡ asker

-- The rule: the one word is how many requests were made, by one seat, and each seat fits it
pub record RequestsHold (s : State (Unit {0}) RequestView) : Type 0 where
  pub made : ℕ
  pub asker : ℕ
  pub alone : s.words ≡ made ∷ []
  pub each_seat : (seat : ℕ) (v : RequestView) → get_elem? s.views seat ≡ option.some v → FitsRequests asker made seat v

-- after a read the seat knows of what was found
abbrev pub heard : Me (Unit {0}) RequestView → ℕ → Me (Unit {0}) RequestView → Type 0
heard m found m' = ((m'.0 ≡ request_view found m.0.asks) × (m.0.requests ≤ found) × (m.0.asks ≡ true → m.0.requests ≡ found)) × (m'.1 ≡ m.1)

-- after a request the seat that made it knows of it
abbrev pub made : ℕ → Me (Unit {0}) RequestView → Me (Unit {0}) RequestView → Type 0
made n m m' = (m'.0 ≡ request_view n m.0.asks) × (m'.1 ≡ m.1)
