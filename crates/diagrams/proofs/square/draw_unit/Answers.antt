use Rattle.std.proofs.Common.{◌∙◌, ◌++◌, string_bytes}
use Rattle.diagrams.specs.Shapes.{outline, detail}
use Rattle.diagrams.specs.Pictures.{left_edge, top_edge, colours, inner_colour, group, unit_shape}
use Rattle.diagrams.proofs.DrawingLemmas.{two_drawn}
use Rattle.diagrams.proofs.square.draw_unit.Goals as goal

pub returns : goal.returns
returns c =
    let u = c.args.unit in
    let grouped = string_bytes c.draw_group.new.text in
    two_drawn (string_bytes c.args.text.now) grouped (string_bytes c.draw_shape.new.text)
    (group (left_edge c.args.column) (top_edge c.args.row) (colours u.side)) (unit_shape (outline u.kind) (detail u.kind) (inner_colour u.side))
    (c.in_ok-draw_group.ensures
    ∙ (λ i. string_bytes c.args.text.now ++ group (c.corner-x.ensures.x i) (c.corner-x.ensures.y i) (c.colours.ensures i)))
    (c.in_ok-draw_shape.ensures ∙ (λ i. grouped ++ unit_shape (c.outline-outline.ensures i) (c.detail-detail.ensures i) (c.inner_colour.ensures i)))
