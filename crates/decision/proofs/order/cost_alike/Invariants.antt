use Rattle.std.proofs.Common.{◌≡◌, take, map}
use Rattle.decision.specs.declared.order.Costed.{Costed}
use Rattle.decision.proofs.order.cost_alike.Given as goal

-- the moves so far stand in the list
abbrev pub invariant-loop-i : goal.invariant-loop-i
invariant-loop-i l = map (λ (it : Costed). it.m) l.list.items ≡ take l.i l.moves
