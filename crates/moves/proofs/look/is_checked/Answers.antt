use Rattle.moves.proofs.Common.{place_in, not_so}
use Rattle.moves.proofs.Kings.{check_at, check_from, no_check}
use Rattle.moves.proofs.look.is_checked.Goals as goal

pub returns-in-Some : goal.returns-in-Some
returns-in-Some c =
    let (cell, king) = c.in-Some.ensures in (
      λ e. check_from c.args.board.now c.args.side (place_in c.in-Some.cell) cell.on_board king (c.is_attacked.ensures.0 e),
      λ h. c.is_attacked.ensures.1 (check_at c.args.board.now c.requires c.args.side (place_in c.in-Some.cell) cell.on_board king h),
    )

pub returns-in-None : goal.returns-in-None
returns-in-None c = not_so (no_check c.args.board.now c.args.side c.in-None.ensures)
