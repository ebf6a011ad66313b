use Rattle.std.proofs.Common.{All, take}
use Rattle.rules.specs.Reach.{ReachesBy}
use Rattle.rules.proofs.reach.reaches.Given as goal

-- no step so far reaches the square
abbrev pub invariant-loop-step : goal.invariant-loop-step
invariant-loop-step l = All (λ s. ReachesBy l.position l.unit s l.from l.to l.target → ⊥) (take l.step-index l.step-items)
