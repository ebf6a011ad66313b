use Rattle.moves.proofs.Common.{arith}
use Rattle.moves.proofs.Gathering.{tallied_start, tallied_end, tallied_few, tallied_more}
use Rattle.moves.proofs.counting.count_lawful.Goals as goal

pub units-init : goal.units-init
units-init c = tallied_start c.args.board.now c.own-left.result c.own-left.ensures.cells

pub count_from-count-requires : goal.count_from-count-requires
count_from-count-requires c =
    let (cell, own) = ((c.units.invariant.left c.take_lowest-cell.result).0 c.take_lowest-cell.ensures.there).0 in
    record { position = c.guard_of-guard.ensures.position; guards = c.guard_of-guard.ensures.guards; cell = cell; own = own }

pub overflow_add-count : goal.overflow_add-count
overflow_add-count c =
    let few = tallied_few c.args.board.now c.units.left c.units.count c.units.invariant c.take_lowest-cell.result c.take_lowest-cell.ensures.there c.take_lowest-cell.ensures.least c.count_from-count.result c.count_from-count.ensures in
    omega (arith, few)

pub units-preserved : goal.units-preserved
units-preserved c =
    tallied_more c.args.board.now c.units.left c.units.count c.units.invariant c.take_lowest-cell.result c.take_lowest-cell.ensures.there c.take_lowest-cell.ensures.least c.count_from-count.result c.count_from-count.ensures
    c.take_lowest-cell.new.set c.take_lowest-cell.ensures.rest

pub returns : goal.returns
returns c = tallied_end c.args.board.now c.units.left c.units.count c.units.invariant c.units-test.false
