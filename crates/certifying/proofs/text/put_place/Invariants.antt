-- so many fifties are put behind the text
use Rattle.std.proofs.Common.{◌≡◌, ◌++◌, replicate}
use Rattle.certifying.proofs.text.put_place.Given as goal

abbrev pub invariant-loop : goal.invariant-loop
invariant-loop l = l.text.items ≡ l.fn.text.items ++ replicate l.counter 90
