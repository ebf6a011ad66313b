use Rattle.std.proofs.Common.{sym}
use Rattle.board.specs.declared.game.Kind.TheVariants.{Knight}
use Rattle.cells.specs.declared.tables.TheConstants.{KNIGHT_LEAPS}
use Rattle.cells.proofs.Leaping.{IsLeapt-in, knight_leaps, knight_short}
use Rattle.cells.proofs.tables.knight_leaps.Goals as goal

pub returns : goal.returns
returns c = λ side j. rw (sym c.board_number.ensures) at (IsLeapt-in KNIGHT_LEAPS side Knight c.args.game (knight_leaps side c.args.game) knight_short c.args.cell j c.requires)
