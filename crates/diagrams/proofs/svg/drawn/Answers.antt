use Rattle.std.proofs.Common.{◌∙◌, ◌+◌, ◌*◌, ◌++◌, ap, codes, string_bytes}
use Rattle.diagrams.specs.Drawing.{mover_drawn}
use Rattle.diagrams.specs.Pictures.{view_of, width, sized_head, sized_paper, frame, mover_mark, rows_picture, all_signs_picture, picture_of, arrow_picture}
use Rattle.diagrams.proofs.DrawingLemmas.{nine_drawn}
use Rattle.diagrams.proofs.svg.drawn.Goals as goal

pub returns : goal.returns
returns c =
    let d = view_of c.args.diagram.now in
    let w = width d in
    let high = c.args.high in
    let wide = c.board_side-side.ensures.value in
    let side = ap (λ n. 48 + n) wide in
    let mover = c.mover_drawn.ensures ∙ ap mover_drawn c.mover-mover.ensures in
    let one = string_bytes c.draw_head.new.text in
    let three = string_bytes c.draw_rows.new.text in
    nine_drawn (string_bytes c.new-text.result) one (string_bytes c.draw_paper.new.text) three (string_bytes c.draw_frame.new.text)
    (string_bytes c.draw_signs.new.text) (string_bytes c.draw_mover.new.text) (string_bytes c.draw_arrow_of.new.text)
    (string_bytes c.push_str.new.self) (string_bytes c.push_str-2.new.self)
    (sized_head (48 + 100 * w) high) (sized_paper (48 + 100 * w) high (mover_drawn d.board.mover)) (rows_picture d) (frame (100 * w))
    (all_signs_picture d) (mover_mark (100 * w) d.board.mover) (picture_of (arrow_picture d) c.args.diagram.now.arrow)
    c.args.below.now (codes "</svg>\n")
    c.new-text.ensures.bytes
    (c.in_ok-draw_head.ensures ∙ ap (λ n. string_bytes c.new-text.result ++ sized_head n high) side)
    (c.in_ok-draw_paper.ensures ∙ (λ i. one ++ sized_paper (side i) high (mover i)))
    c.in_ok-draw_rows.ensures
    (c.in_ok-draw_frame.ensures ∙ ap (λ n. three ++ frame n) wide)
    c.in_ok-draw_signs.ensures
    (c.in_ok-draw_mover.ensures ∙ (λ i. string_bytes c.draw_signs.new.text ++ mover_mark (wide i) (c.mover-mover.ensures i)))
    c.in_ok-draw_arrow_of.ensures
    c.in_ok-push_str.ensures.bytes
    c.in_ok-push_str-2.ensures.bytes
