use Rattle.command_line.proofs.reading.limit_of.Goals as goal

pub returns-in-None : goal.returns-in-None
returns-in-None c = rw c.in-None.ensures c.number_of.ensures

pub returns-in_err-number_of-in-None-text_of : goal.returns-in_err-number_of-in-None-text_of
returns-in_err-number_of-in-None-text_of c =
    rw (c.from_residual.ensures, c.in-Some.ensures) (λ n has. c.in_err-number_of-in-None-text_of.ensures has.1.0 has.1.1)
