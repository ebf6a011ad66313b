use Rattle.moves.proofs.Common.{◌-◌, arith, and_le_r, Has-rest}
use Rattle.moves.proofs.sweep.take_lowest.Goals as goal

pub returns-clause-least : goal.returns-clause-least
returns-clause-least c = λ i low h. omega (arith, c.lowest-cell.ensures.least i low, h)

pub returns-clause-rest : goal.returns-clause-rest
returns-clause-rest c = λ i. Has-rest c.args.set.now c.lowest-cell.result c.requires c.lowest-cell.ensures.there (λ k less h. omega (arith, c.lowest-cell.ensures.least k less, h)) i

pub returns-clause-less : goal.returns-clause-less
returns-clause-less c = let l = and_le_r c.args.set.now (c.args.set.now - 1) in omega (arith, l, c.requires)
