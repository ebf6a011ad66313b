use Rattle.std.proofs.Common.{string_bytes}
use Rattle.diagrams.specs.Pictures.{view_of, row_picture}
use Rattle.diagrams.proofs.DrawingLemmas.{drawn_on}
use Rattle.diagrams.proofs.svg.draw_rows.Goals as goal

pub loop-row-preserved : goal.loop-row-preserved
loop-row-preserved c = drawn_on (row_picture (view_of c.args.diagram.now)) c.loop-row.row (string_bytes c.args.text.now) (string_bytes c.loop-row.text) (string_bytes c.draw_row.new.text) c.loop-row.invariant c.in_ok-draw_row.ensures
