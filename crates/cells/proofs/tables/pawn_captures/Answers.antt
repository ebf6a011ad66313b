use Rattle.board.specs.declared.game.Side.TheVariants.{White, Black}
use Rattle.board.specs.declared.game.Kind.TheVariants.{Pawn}
use Rattle.cells.specs.declared.tables.TheConstants.{WHITE_CAPTURES, BLACK_CAPTURES}
use Rattle.cells.proofs.Leaping.{IsLeapt-in, IsLeapt-entry, white_captures, black_captures, pawn_short}
use Rattle.cells.proofs.tables.pawn_captures.Goals as goal

pub returns-in-White : goal.returns-in-White
returns-in-White c = λ j.
    let g = c.args.game in
    IsLeapt-entry WHITE_CAPTURES c.args.side White c.in-White.is g _ c.args.cell j c.board_number.ensures (IsLeapt-in WHITE_CAPTURES White Pawn g (white_captures g) pawn_short c.args.cell j c.requires)

pub returns-in-Black : goal.returns-in-Black
returns-in-Black c = λ j.
    let g = c.args.game in
    IsLeapt-entry BLACK_CAPTURES c.args.side Black c.in-Black.is g _ c.args.cell j c.board_number-in-Black.ensures (IsLeapt-in BLACK_CAPTURES Black Pawn g (black_captures g) pawn_short c.args.cell j c.requires)
