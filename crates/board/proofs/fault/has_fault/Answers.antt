use Rattle.board.proofs.fault.has_fault.Goals as goal

pub returns-in-Letter : goal.returns-in-Letter
returns-in-Letter c = rw c.in-Letter.is (rw c.parts.ensures.board at c.has_foreign.ensures)
