use Rattle.std.proofs.Common.{sym}
use Rattle.board.specs.declared.game.Kind.TheVariants.{King}
use Rattle.cells.specs.declared.tables.TheConstants.{KING_LEAPS}
use Rattle.cells.proofs.Leaping.{IsLeapt-in, king_leaps, king_short}
use Rattle.cells.proofs.tables.king_leaps.Goals as goal

pub returns : goal.returns
returns c = λ side j. rw (sym c.board_number.ensures) at (IsLeapt-in KING_LEAPS side King c.args.game (king_leaps side c.args.game) king_short c.args.cell j c.requires)
