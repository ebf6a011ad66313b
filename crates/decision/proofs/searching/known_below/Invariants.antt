use Rattle.decision.specs.Callers.{GoesOn}
use Rattle.decision.proofs.searching.known_below.Given as goal

abbrev pub invariant-loop-m : goal.invariant-loop-m
invariant-loop-m g l = GoesOn l.fn.caller l.caller
