use Rattle.cells.proofs.LineTables.{slanted}
use Rattle.cells.proofs.lines.slanted_lines.Goals as goal

pub returns : goal.returns
returns c = λ j. slanted c.args.game c.board_number.result c.args.cell j c.board_number.ensures c.requires
