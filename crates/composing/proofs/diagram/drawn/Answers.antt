use Rattle.std.proofs.Common.{◌≡◌, ◌∙◌, ℕ, List, None, subst, string_bytes}
use Rattle.std.proofs.lemmas.Result.{IfOk-weaker}
use Rattle.board.specs.Board.{PlainBoard}
use Rattle.board.specs.declared.game.Side.TheVariants.{White}
use Rattle.diagrams.specs.Pictures.{captioned_picture}
use Rattle.composing.proofs.diagram.drawn.Goals as goal

pub returns : goal.returns
returns c =
    IfOk-weaker c.captioned_svg.result _ _ (λ text drawn. (
      string_bytes c.in_ok-named.named,
      c.in_ok-named.ensures,
      subst (λ (x : PlainBoard × List ℕ × List ℕ). string_bytes text ≡ captioned_picture (record { board = x.0; below = White }) None x.1 x.2)
          (λ i. (c.position-position.ensures i, (c.as_str.ensures.value ∙ c.in_ok-stipulation.ensures) i, c.as_str-2.ensures.value i)) drawn,
    )) c.captioned_svg.ensures
