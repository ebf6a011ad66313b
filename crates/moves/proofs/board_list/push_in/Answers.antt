use Rattle.moves.proofs.Common.{◌+◌, ◌*◌, sym, subst, ◌∙◌, arith, IsOnBoard, square_number, ListsBelow, place_in}
use Rattle.moves.proofs.Scanning.{scan_start, scan_lists, scan_room, scan_more, scan_end}
use Rattle.moves.proofs.Gathering.{unit_room, unit_more}
use Rattle.moves.proofs.board_list.push_in.Goals as goal

pub cells-init : goal.cells-init
cells-init c = scan_start c.args.board.now c.in-Some.unit (place_in c.args.cell) c.requires.cell.on_board c.safe_cells-left.result c.safe_cells-left.ensures c.args.moves.now.items _ c.requires.before.lists

pub push_to-requires-clause-to_on_board : goal.push_to-requires-clause-to_on_board
push_to-requires-clause-to_on_board c = subst (IsOnBoard c.args.board.now.game) (sym c.square_in.ensures) (c.safe_cells-left.ensures.cells c.take_lowest-to.result ((c.cells.invariant.left c.take_lowest-to.result).0 c.take_lowest-to.ensures.there).0).0.on_board

pub push_to-requires-clause-lawful : goal.push_to-requires-clause-lawful
push_to-requires-clause-lawful c = λ m from to.
    c.safe_cells-left.ensures.lawful c.take_lowest-to.result m ((c.cells.invariant.left c.take_lowest-to.result).0 c.take_lowest-to.ensures.there).0 (from ∙ c.square_in-from.ensures) (to ∙ c.square_in.ensures)

pub push_to-requires-clause-room : goal.push_to-requires-clause-room
push_to-requires-clause-room c =
    let b = c.args.board.now in
    let room = scan_room b c.in-Some.unit (place_in c.args.cell) c.requires.cell.on_board c.safe_cells-left.result c.safe_cells-left.ensures c.cells.left c.cells.moves.items _ _ c.cells.invariant c.take_lowest-to.result c.take_lowest-to.ensures.there c.take_lowest-to.ensures.least in
    omega (arith, room, unit_room b c.requires.position c.args.cell (c.requires.cell, c.requires.own) c.args.moves.now.items c.requires.before)

pub push_to-requires-clause-before : goal.push_to-requires-clause-before
push_to-requires-clause-before c =
    rw (c.square_in-from.ensures, c.square_in.ensures)
    (scan_lists c.args.board.now c.in-Some.unit (place_in c.args.cell) c.requires.cell.on_board c.safe_cells-left.result c.safe_cells-left.ensures c.cells.left c.cells.moves.items _ _ c.cells.invariant c.take_lowest-to.result c.take_lowest-to.ensures.there c.take_lowest-to.ensures.least).0

pub cells-preserved : goal.cells-preserved
cells-preserved c =
    let b = c.args.board.now in
    let s = place_in c.args.cell in
    let after : ListsBelow b ((square_number b.game s * 36 + square_number b.game (place_in c.take_lowest-to.result) + 1) * 5) c.push_to.new.moves.items = rw (c.square_in-from.ensures, c.square_in.ensures) at c.push_to.ensures.after in
    scan_more b c.in-Some.unit s c.requires.cell.on_board c.safe_cells-left.result c.safe_cells-left.ensures c.cells.left c.cells.moves.items _ _ c.cells.invariant c.take_lowest-to.result c.take_lowest-to.ensures.there c.take_lowest-to.ensures.least
    c.take_lowest-to.new.set c.push_to.new.moves.items _ c.take_lowest-to.ensures.rest c.push_to.ensures.few c.push_to.ensures.one after

pub returns : goal.returns
returns c =
    let b = c.args.board.now in
    let (lists, few) = scan_end b c.in-Some.unit (place_in c.args.cell) c.requires.cell.on_board c.safe_cells-left.result c.safe_cells-left.ensures c.cells.left c.cells.moves.items _ _ c.cells.invariant c.cells-test.false in
    unit_more b c.requires.position c.args.cell (c.requires.cell, c.requires.own) c.args.moves.now.items c.requires.before c.cells.moves.items lists few
