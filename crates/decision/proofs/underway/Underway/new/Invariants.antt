use Rattle.std.proofs.Common.{◌≡◌, length}
use Rattle.decision.proofs.underway.Underway.new.Given as goal

abbrev pub invariant-loop : goal.invariant-loop
invariant-loop l = length l.places.items ≡ l.counter
