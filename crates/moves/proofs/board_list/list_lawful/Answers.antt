use Rattle.moves.proofs.Common.{rules, ◌≡◌, sym, subst, []}
use Rattle.moves.proofs.Gathering.{IsGathered, gathered_start, gathered_end, gathered_lists, gathered_more}
use Rattle.moves.proofs.board_list.list_lawful.Goals as goal

pub units-init : goal.units-init
units-init c =
    let b = c.args.board.now in
    let empty : c.clear.new.self.items ≡ [] = search rules in
    subst (IsGathered b c.own-left.result) (sym empty) (gathered_start b c.own-left.result c.own-left.ensures.cells)

pub push_in-requires : goal.push_in-requires
push_in-requires c =
    let (cell, own) = ((c.units.invariant.left c.take_lowest-cell.result).0 c.take_lowest-cell.ensures.there).0 in
    let before = gathered_lists c.args.board.now c.units.left c.units.moves.items c.units.invariant c.take_lowest-cell.result c.take_lowest-cell.ensures.there c.take_lowest-cell.ensures.least in
    record { position = c.guard_of-guard.ensures.position; guards = c.guard_of-guard.ensures.guards; cell = cell; own = own; before = before }

pub units-preserved : goal.units-preserved
units-preserved c =
    gathered_more c.args.board.now c.units.left c.units.moves.items c.units.invariant c.take_lowest-cell.result c.take_lowest-cell.ensures.there c.take_lowest-cell.ensures.least
    c.take_lowest-cell.new.set c.push_in.new.moves.items c.take_lowest-cell.ensures.rest c.push_in.ensures

pub returns : goal.returns
returns c = gathered_end c.args.board.now c.units.left c.units.moves.items c.units.invariant c.units-test.false
