-- The source stays as it was.
use Rattle.std.proofs.Common.{◌≡◌}
use Rattle.verdicts.proofs.beginning.Keeping.keep.Given as goal

abbrev pub invariant-loop-c : goal.invariant-loop-c
invariant-loop-c g l = l.self.source ≡ l.fn.self.source
