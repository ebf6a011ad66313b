use Rattle.wintree.proofs.Winning.{verdict}
use Rattle.wintree.proofs.wins.check.Goals as goal

pub returns-clause-wins : goal.returns-clause-wins
returns-clause-wins g c =
    let found = c.height_or_flaw in
    rw c.ok.ensures.value (verdict c.args.goal c.args.position.now c.args.tree.now found.result found.ensures.wins found.ensures.flaw).0
