use Rattle.std.proofs.Common.{◌≢◌, ◌<◌, ℕ}
use Rattle.std.specs.Fmt.{decimal}
use Rattle.verifying.proofs.first_line.number_of.Given as goal

-- no number so far is the digits'
abbrev pub invariant-loop-number : goal.invariant-loop-number
invariant-loop-number l = (n : ℕ) → n < l.number → 0 < n → decimal n ≢ l.digits
