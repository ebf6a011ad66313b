-- What becomes of a solver's stop as a program in another language holds it.
use Rattle.std.specs.Prelude.{◌≡◌, ◌⊎◌, ℕ, Bool, true, false, Option, None, Some}
use Rattle.std.specs.Arc.{arc_value}
use Rattle.stops.specs.Promise.{WantsStop, requests}
use Rattle.solver.specs.declared.listening.StopSource.{StopSource}
use Rattle.solver.specs.declared.listening.Place.{Place}
use Rattle.solver.specs.Placing.{IsPlace}

-- the last request is one for a stop, or it is none; the last of 2^64 - 1 requests stays one for a stop
abbrev pub AsksFor : Bool → StopSource → Type 0
AsksFor true source = WantsStop source.seat
AsksFor false source = (WantsStop source.seat → ⊥) ⊎ (requests source.seat ≡ 18446744073709551615)

-- what is held asks the same solver to stop or to go on, or nothing is held
pub data Sets (stop : Bool) : Option StopSource → Option StopSource → ℕ → Type 0 where
  told : {before after : StopSource} → arc_value after.shared ≡ arc_value before.shared → AsksFor stop after → Sets stop (Some before) (Some after) 0
  none_told : {held : Option StopSource} → Sets stop None held 5

-- a place is written that a search can be at, or nothing is held and nothing is written
pub data Looks : Option StopSource → Option StopSource → Place → ℕ → Place → Type 0 where
  looked : {source : StopSource} {old place : Place} → IsPlace place → Looks (Some source) (Some source) old 0 place
  none_looked : {held : Option StopSource} {old : Place} → Looks None held old 5 old
