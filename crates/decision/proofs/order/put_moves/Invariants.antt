use Rattle.std.proofs.Common.{◌≡◌, take, map}
use Rattle.decision.specs.declared.order.Costed.{Costed}
use Rattle.decision.proofs.order.put_moves.Given as goal

-- the moves so far stand in the list
abbrev pub invariant-loop-it : goal.invariant-loop-it
invariant-loop-it l = l.moves.items ≡ map (λ (it : Costed). it.m) (take l.it-index l.costed)
