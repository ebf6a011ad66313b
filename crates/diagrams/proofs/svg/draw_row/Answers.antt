use Rattle.std.proofs.Common.{string_bytes}
use Rattle.diagrams.specs.Pictures.{view_of, square_picture}
use Rattle.diagrams.proofs.DrawingLemmas.{drawn_on}
use Rattle.diagrams.proofs.svg.draw_row.Goals as goal

pub loop-column-preserved : goal.loop-column-preserved
loop-column-preserved c = drawn_on (square_picture (view_of c.args.diagram.now) c.args.row) c.loop-column.column (string_bytes c.args.text.now) (string_bytes c.loop-column.text) (string_bytes c.draw_square.new.text) c.loop-column.invariant c.in_ok-draw_square.ensures
