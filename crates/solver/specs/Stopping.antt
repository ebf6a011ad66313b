-- How a solver is stopped.
use Rattle.std.specs.Prelude.{◌≡◌, ◌≤◌}
use Rattle.std.specs.Arc.{arc_value}
use Rattle.stops.specs.Promise.{requests, WantsStop}
use Rattle.solver.specs.declared.solver.Solver.{Solver}

-- the last request that the solver has heard of is one for a stop
abbrev pub IsStopped : Solver → Type 0
IsStopped s = WantsStop s.scout.stop.seat

-- the solver listens to the same requests, and forgets none that it has heard of
pub record Hears (before after : Solver) : Type 0 where
  pub shared : arc_value after.scout.stop.shared ≡ arc_value before.scout.stop.shared
  pub grows : requests before.scout.stop.seat ≤ requests after.scout.stop.seat
