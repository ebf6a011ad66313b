use Rattle.std.proofs.Common.{◌≡◌, take, map}
use Rattle.decision.specs.declared.order.Costed.{Costed}
use Rattle.decision.proofs.order.cost_all.Given as goal

-- the moves so far stand in the list
abbrev pub invariant-loop-m : goal.invariant-loop-m
invariant-loop-m l = map (λ (it : Costed). it.m) l.costed.items ≡ take l.m-index l.moves
