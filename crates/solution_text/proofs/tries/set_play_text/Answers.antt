use Rattle.std.proofs.Common.{All, ◌∙◌, subst, sym, string_bytes}
use Rattle.solution_text.proofs.Common.{IfOk-weaker, IsVariation, AreTexts, IsVariationText}
use Rattle.solution_text.proofs.Texts.{set_play_is}
use Rattle.solution_text.proofs.tries.set_play_text.Goals as goal

pub texts-requires : goal.texts-requires
texts-requires g c =
    subst (λ b. All (IsVariation c.args.notation.goal b) c.args.variations.now) (sym c.in-Some.ensures.0) (c.requires.1.sound c.in-Some.ensures.1).each

pub returns : goal.returns
returns g c =
    let lines = subst (λ b. AreTexts (IsVariationText c.args.notation b) c.args.variations.now (string_bytes c.in_ok-lines.lines)) c.in-Some.ensures.0 c.in_ok-lines.ensures in
    IfOk-weaker c.format-2.result _ _ (λ text spelled. set_play_is c.args.notation c.args.board.now c.args.variations.now _ _ (sym c.is_empty.ensures ∙ c.if-is_empty.false) lines spelled) c.format-2.ensures.ok
