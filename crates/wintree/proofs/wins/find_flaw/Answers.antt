use Rattle.wintree.proofs.Winning.{verdict}
use Rattle.wintree.proofs.wins.find_flaw.Goals as goal

pub returns-clause-none : goal.returns-clause-none
returns-clause-none g c =
    let found = c.height_or_flaw in
    rw c.err.ensures.value (verdict c.args.goal c.args.position.now c.args.tree.now found.result found.ensures.wins found.ensures.flaw).1
