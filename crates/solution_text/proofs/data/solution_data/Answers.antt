use Rattle.std.proofs.Common.{◌++◌, ◌∙◌, ap, codes}
use Rattle.json.specs.Print.{print}
use Rattle.solution_text.proofs.Common.{IfOk-weaker}
use Rattle.json_data.proofs.Written.{followed, from_nothing, wrote}
use Rattle.solution_text.proofs.data.solution_data.Goals as goal

pub returns : goal.returns
returns g c =
    let all =
    followed c.in_ok-begin_problem.ensures (followed c.in_ok-member.ensures (followed c.in_ok-member-2.ensures (followed c.in_ok-member-3.ensures
    (followed c.in_ok-member-4.ensures (followed c.in_ok-member-5.ensures (wrote c.in_ok-end_object.ensures)))))) in
    IfOk-weaker c.into_line.result _ _ (λ text is. is ∙ ap (λ ts. print ts ++ codes "\n") (from_nothing c.new-writer.ensures.tokens all)) c.into_line.ensures
