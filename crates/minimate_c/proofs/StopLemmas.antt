-- How the replies of what stops a solver come about.
use Rattle.std.proofs.Common.{◌≡◌, Bool, sym, subst, Option, None, Some}
use Rattle.std.specs.Arc.{arc_value}
use Rattle.solver.specs.declared.listening.StopSource.{StopSource}
use Rattle.solver.specs.declared.listening.Place.{Place}
use Rattle.solver.specs.Placing.{IsPlace}
use Rattle.minimate_c.specs.Stopping.{AsksFor, Sets, told, none_told, Looks, looked, none_looked}

pub is_set : (stop : Bool) (was held : Option StopSource) (before after : StopSource) → was ≡ Some before → held ≡ Some after
    → arc_value after.shared ≡ arc_value before.shared → AsksFor stop after → Sets stop was held 0
is_set stop was held before after is_before is_after same asks =
    subst (λ (p : Option StopSource × Option StopSource). Sets stop p.0 p.1 0) (λ i. (sym is_before i, sym is_after i)) (told same asks)

pub nothing_set : (stop : Bool) (was held : Option StopSource) → was ≡ None → Sets stop was held 5
nothing_set stop was held empty = subst (λ (o : Option StopSource). Sets stop o held 5) (sym empty) none_told

pub is_looked : (was held : Option StopSource) (source : StopSource) (old place : Place) → was ≡ Some source → held ≡ Some source → IsPlace place → Looks was held old 0 place
is_looked was held source old place is_before is_after right =
    subst (λ (p : Option StopSource × Option StopSource). Looks p.0 p.1 old 0 place) (λ i. (sym is_before i, sym is_after i)) (looked right)

pub nothing_looked : (was held : Option StopSource) (old : Place) → was ≡ None → Looks was held old 5 old
nothing_looked was held old empty = subst (λ (o : Option StopSource). Looks o held old 5 old) (sym empty) none_looked
