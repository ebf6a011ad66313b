-- The fault of a line, where an answer was told or none.
use Rattle.std.specs.Prelude.{ℕ, ◌+◌, Option, None, Some}
use Rattle.problems.specs.declared.answer.Answer.{Answer}
use Rattle.verifying.specs.declared.fault.Fault.{Fault}
use Rattle.verifying.specs.declared.fault.Fault.TheVariants.{Answer as IsAnswerFault, Claim}

-- the fault of the line behind so many, where this answer was told or none
abbrev pub fault_at : Option Answer → ℕ → Fault
fault_at None number = IsAnswerFault
fault_at (Some answer) number = Claim (number + 1)
