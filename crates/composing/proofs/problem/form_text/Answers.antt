use Rattle.std.proofs.Common.{◌∙◌, ℕ, List, string_bytes, subst, sym}
use Rattle.std.proofs.lemmas.Result.{IfOk-weaker}
use Rattle.board.specs.Board.{PlainBoard}
use Rattle.board.specs.Fen.{IsFenText}
use Rattle.solutions.specs.declared.extras.Extras.{Extras}
use Rattle.solutions.specs.Solutions.{IsSolution}
use Rattle.composing.proofs.SolutionLemmas.{data_text, diagram_text, short_text}
use Rattle.composing.proofs.problem.form_text.Goals as goal

pub returns-in-Picture-clause-text : goal.returns-in-Picture-clause-text
returns-in-Picture-clause-text g c =
    let r = c.args.root.now in
    let notation = c.notation_of-notation in
    IfOk-weaker c.diagram_text.result _ _ (λ text is. diagram_text r.goal r.board c.args.options c.args.sooner notation.result (string_bytes text)
    (sym c.form_of.ensures ∙ c.in-Picture.is) notation.ensures is) c.diagram_text.ensures.text

pub returns-in-Ok-clause-text : goal.returns-in-Ok-clause-text
returns-in-Ok-clause-text g c =
    let r = c.args.root.now in
    let notation = c.notation_of-notation in
    short_text r.goal r.board c.args.options c.args.sooner notation.result c.in_ok-solution-in-Short.solution (string_bytes c.in-Ok.text)
    (sym c.form_of.ensures ∙ c.in-Short.is) (subst (λ (e : Extras). IsSolution r.goal r.board e c.in_ok-solution-in-Short.solution) c.extras_of-extras.ensures c.in_ok-solution-in-Short.ensures.solution) notation.ensures c.in-Ok.ensures

pub returns-in-Ok-solution_data-clause-text : goal.returns-in-Ok-solution_data-clause-text
returns-in-Ok-solution_data-clause-text g c =
    let r = c.args.root.now in
    let fen = subst (λ (x : List ℕ × PlainBoard). IsFenText x.0 x.1) (λ i. (sym c.as_str.ensures.value i, c.position.ensures i)) c.fen_text-fen.ensures.text in
    data_text r.goal r.board c.args.options c.args.sooner c.as_str.result.now c.in_ok-solution-in-Data.solution (string_bytes c.in-Ok-solution_data.text)
    (sym c.form_of.ensures ∙ c.in-Data.is) fen (subst (λ (e : Extras). IsSolution r.goal r.board e c.in_ok-solution-in-Data.solution) c.extras_of-extras.ensures c.in_ok-solution-in-Data.ensures.solution) c.in-Ok-solution_data.ensures
