use Rattle.std.proofs.Common.{◌∙◌, ◌+◌, ◌∷◌, ◌++◌, [], ap, arith, string_bytes}
use Rattle.diagrams.specs.Places.{column_of}
use Rattle.diagrams.specs.Drawing.{file_drawn}
use Rattle.diagrams.proofs.DrawingLemmas.{drawn_on, two_drawn}
use Rattle.diagrams.proofs.drawing.draw_files.Goals as goal
use Rattle.rules.proofs.Room.{width_six as width_fits}

pub loop-column-preserved : goal.loop-column-preserved
loop-column-preserved c =
    drawn_on (file_drawn c.args.game c.args.below) c.loop-column.column (string_bytes c.args.text.now)
    (string_bytes c.loop-column.text) (string_bytes c.push-in-loop-column.new.self) c.loop-column.invariant
    (two_drawn (string_bytes c.loop-column.text) (string_bytes c.push.new.self) (string_bytes c.push-in-loop-column.new.self) (32 ∷ []) ((97 + column_of c.args.game c.args.below c.loop-column.column) ∷ [])
    (c.in_ok-push.ensures.bytes ∙ ap (λ l. string_bytes c.loop-column.text ++ l) (c.in_ok-push.ensures.ascii (omega arith)))
    (c.in_ok-push-2.ensures.bytes ∙ ap (λ l. string_bytes c.push.new.self ++ l) (c.in_ok-push-2.ensures.ascii (omega (arith, c.column_of.ensures.on_board, width_fits c.args.game)) ∙ ap (λ x. (97 + x) ∷ []) c.column_of.ensures.value)))
