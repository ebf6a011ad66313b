use Rattle.std.proofs.Common.{◌≡◌, ◌∙◌, ℕ, List, [], ◌∷◌, ◌++◌, ap, codes, rules, string_bytes, subst}
use Rattle.std.proofs.lemmas.Result.{IfOk-weaker}
use Rattle.std.specs.Str.Lossy.{utf8_lossy}
use Rattle.json.specs.Print.{print}
use Rattle.json.specs.Token.{string}
use Rattle.json_data.specs.Data.{Appends, member}
use Rattle.json_data.proofs.Written.{followed, from_nothing, wrote}
use Rattle.refusals.specs.Refusal.{refusal_text}
use Rattle.batch_texts.proofs.objects.refused_object.Goals as goal

pub returns : goal.returns
returns c =
    let name : string_bytes c.in_ok-format.field-0 ≡ refusal_text c.args.refusal = search rules in
    let lossy : string_bytes c.in_ok-from_utf8_lossy.field-0 ≡ utf8_lossy c.args.sentence.now = search rules in
    let named = subst (λ (w : List ℕ). Appends c.write_position.new.writer c.member.new.writer (member (codes "refused") (string w ∷ []))) name c.in_ok-member.ensures in
    let told = subst (λ (w : List ℕ). Appends c.member.new.writer c.member-2.new.writer (member (codes "sentence") (string w ∷ []))) lossy c.in_ok-member-2.ensures in
    let all = followed (wrote c.in_ok-begin_object.ensures) (followed c.in_ok-write_position.ensures (followed named (followed told (wrote c.in_ok-end_object.ensures)))) in
    IfOk-weaker c.into_line.result _ _ (λ text is. is ∙ ap (λ ts. print ts ++ codes "\n") (from_nothing c.new-writer.ensures.tokens all)) c.into_line.ensures
