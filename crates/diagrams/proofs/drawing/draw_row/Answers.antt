use Rattle.std.proofs.Common.{◌∙◌, ◌+◌, ◌*◌, ◌∷◌, ◌++◌, [], ap, arith, string_bytes}
use Rattle.board.specs.Board.{unit_on}
use Rattle.board.specs.Games.{width_of}
use Rattle.diagrams.specs.Drawing.{sign_on, square_drawn}
use Rattle.diagrams.specs.Places.{column_of, row_of}
use Rattle.diagrams.proofs.DrawingLemmas.{drawn_on, two_drawn}
use Rattle.diagrams.proofs.drawing.draw_row.Goals as goal

pub loop-column-preserved : goal.loop-column-preserved
loop-column-preserved c =
    let v = c.args.view.now in
    let b = v.position.now in
    let column = c.loop-column.column in
    let file = c.column_of-file.ensures.value ∙ ap (λ g. column_of g v.below column) c.game-game.ensures.value in
    let wide = c.width.ensures ∙ ap width_of c.game-game.ensures.value in
    let rank = c.row_of-rank.ensures.value ∙ ap (λ g. row_of g v.below c.args.row) c.game-game.ensures.value in
    let start = string_bytes c.loop-column.text in
    let blank = string_bytes c.push.new.self in
    let unit = c.unit.ensures ∙ (λ i. unit_on b (file i + wide i * rank i)) in
    drawn_on (square_drawn v.style v.below b c.args.row) column (string_bytes c.write.new.self) start (string_bytes c.draw_unit.new.text) c.loop-column.invariant
    (two_drawn start blank (string_bytes c.draw_unit.new.text) (32 ∷ []) (sign_on v.style (unit_on b (column_of b.game v.below column + width_of b.game * row_of b.game v.below c.args.row)))
    (c.in_ok-push.ensures.bytes ∙ ap (λ l. start ++ l) (c.in_ok-push.ensures.ascii (omega arith)))
    (c.in_ok-draw_unit.ensures ∙ ap (λ u. blank ++ sign_on v.style u) unit))
