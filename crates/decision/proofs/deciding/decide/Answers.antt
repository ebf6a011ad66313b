use Rattle.decision.proofs.deciding.decide.Goals as goal

pub returns-clause-below : goal.returns-clause-below
returns-clause-below g c = rw c.of.ensures at c.decide_on.ensures.decided.below
