use Rattle.std.proofs.Common.{◌≡◌, ◌+◌, IfOk, [], string_bytes, subst}
use Rattle.diagrams.specs.Pictures.{view_of, picture_with}
use Rattle.diagrams.proofs.svg.svg_of.Goals as goal

pub returns : goal.returns
returns c =
    let d = c.args.diagram.now in
    subst (λ n. IfOk c.drawn.result (λ text. string_bytes text ≡ picture_with (view_of d) d.arrow (48 + n) []))
    c.board_side.ensures.value c.drawn.ensures
