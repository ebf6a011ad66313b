use Rattle.command_line.proofs.reading.limits.Goals as goal

pub returns-in_err-number_of : goal.returns-in_err-number_of
returns-in_err-number_of c = rw c.from_residual-in_err-number_of.ensures (λ values has. c.in_err-number_of.ensures values.workers has.workers)

pub returns-in_err-number_of-2 : goal.returns-in_err-number_of-2
returns-in_err-number_of-2 c = rw c.from_residual-in_err-number_of-2.ensures (λ values has. c.in_err-number_of-2.ensures values.slots has.slots)
