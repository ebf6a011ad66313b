use Rattle.std.proofs.Common.{string_bytes}
use Rattle.diagrams.specs.Drawing.{row_drawn}
use Rattle.diagrams.proofs.DrawingLemmas.{drawn_on}
use Rattle.diagrams.proofs.drawing.draw_rows.Goals as goal

pub loop-row-preserved : goal.loop-row-preserved
loop-row-preserved c = drawn_on (row_drawn c.args.view.now.style c.args.view.now.below c.args.view.now.position.now) c.loop-row.row (string_bytes c.args.text.now) (string_bytes c.loop-row.text) (string_bytes c.draw_row.new.text) c.loop-row.invariant c.in_ok-draw_row.ensures
