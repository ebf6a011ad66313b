use Rattle.cells.proofs.LineTables.{straight}
use Rattle.cells.proofs.lines.straight_lines.Goals as goal

pub returns : goal.returns
returns c = λ j. straight c.args.game c.board_number.result c.args.cell j c.board_number.ensures c.requires
