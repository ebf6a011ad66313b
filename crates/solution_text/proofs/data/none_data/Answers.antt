use Rattle.std.proofs.Common.{◌++◌, ◌∙◌, List, ap, codes, subst}
use Rattle.json.specs.Print.{print}
use Rattle.json_data.specs.Data.{Appends, array_of, member, move_data}
use Rattle.solution_text.proofs.Common.{IfOk-weaker, Ply}
use Rattle.json_data.proofs.Written.{followed, from_nothing, wrote}
use Rattle.solution_text.proofs.data.none_data.Goals as goal

pub returns : goal.returns
returns g c =
    let no_keys =
    subst (λ (keys : List Ply). Appends c.member-2.new.writer c.member-3.new.writer (member (codes "keys") (array_of move_data keys))) c.new-2.ensures.items c.in_ok-member-3.ensures in
    let all =
    followed c.in_ok-begin_problem.ensures (followed c.in_ok-member.ensures (followed c.in_ok-member-2.ensures (followed no_keys
    (followed c.in_ok-member-4.ensures (followed c.in_ok-member-5.ensures (wrote c.in_ok-end_object.ensures)))))) in
    IfOk-weaker c.into_line.result _ _ (λ text is. is ∙ ap (λ ts. print ts ++ codes "\n") (from_nothing c.new-writer.ensures.tokens all)) c.into_line.ensures
