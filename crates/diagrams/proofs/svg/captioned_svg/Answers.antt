use Rattle.std.proofs.Common.{◌≡◌, ◌∙◌, ◌+◌, IfOk, List, ℕ, string_bytes, subst}
use Rattle.diagrams.specs.Pictures.{view_of, escaped, caption, picture_with}
use Rattle.diagrams.proofs.svg.captioned_svg.Goals as goal

pub returns : goal.returns
returns c =
    let d = c.args.diagram.now in
    let n = c.board_side-side.result in
    let stipulation = c.as_str.ensures.value ∙ c.in_ok-stipulation.ensures in
    let keys = c.as_str-2.ensures.value ∙ c.in_ok-keys.ensures in
    let line = c.as_str-3.ensures.value ∙ c.in_ok-caption.ensures ∙ (λ i. caption n (stipulation i) (keys i)) in
    let shown = λ (n : ℕ) (below : List ℕ). IfOk c.drawn.result (λ text. string_bytes text ≡ picture_with (view_of d) d.arrow (88 + n) below) in
    subst (λ n. shown n (caption n (escaped c.args.stipulation.now) (escaped c.args.keys.now))) c.board_side-side.ensures.value
    (subst (shown n) line c.drawn.ensures)
