use Rattle.minimate_c.proofs.writing.told_at.Goals as goal

pub returns-in-Keys-clause-told : goal.returns-in-Keys-clause-told
returns-in-Keys-clause-told c = rw c.in-Keys.is c.keys_at.ensures.told

pub returns-in-Tree-clause-told : goal.returns-in-Tree-clause-told
returns-in-Tree-clause-told c = rw c.in-Tree.is c.tree_at.ensures.told
