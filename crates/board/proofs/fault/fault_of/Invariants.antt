use Rattle.std.proofs.Common.{ℕ, ◌<◌, get_or}
use Rattle.board.specs.Passed.{Passes}
use Rattle.board.specs.declared.fault.FenFault.{FenFault}
use Rattle.board.specs.declared.fault.TheConstants.{TESTED}
use Rattle.board.proofs.fault.fault_of.Given as goal

-- the text passes the tests so far
abbrev pub invariant-loop-fault : goal.invariant-loop-fault
invariant-loop-fault l = (k : ℕ) (d : FenFault) → k < l.fault-index → Passes (get_or TESTED k d) l.text
