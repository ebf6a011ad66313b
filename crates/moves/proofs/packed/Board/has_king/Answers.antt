use Rattle.moves.proofs.packed.Board.has_king.Goals as goal

pub returns : goal.returns
returns c = (λ yes. ((c.kings.ensures c.args.cell).0 (c.has.ensures.0 yes)).1, λ king. c.has.ensures.1 ((c.kings.ensures c.args.cell).1 (c.requires, king)))
