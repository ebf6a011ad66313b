use Rattle.std.proofs.Common.{ℕ, List, [], ◌∷◌, codes, subst}
use Rattle.json.specs.Token.{string}
use Rattle.json_data.specs.Data.{Appends, member}
use Rattle.json_data.proofs.Written.{begun}
use Rattle.batch_texts.proofs.objects.write_answer.Goals as goal

pub returns-in_ok-member-in-Mate-2 : goal.returns-in_ok-member-in-Mate-2
returns-in_ok-member-in-Mate-2 c =
    let r = c.member-in-Mate-2.result in
    let word = subst (λ (w : List ℕ). Appends c.args.writer.now c.member.new.writer (member (codes "answer") (string w ∷ []))) c.answer_word.ensures c.in_ok-member-in-Mate.ensures in
    rw c.in-Mate.is (begun r _ _ word (begun r _ _ c.in_ok-member-in-Mate-2.ensures c.member-in-Mate-2.ensures))

pub returns-in_ok-member-in-NoneWithin-2 : goal.returns-in_ok-member-in-NoneWithin-2
returns-in_ok-member-in-NoneWithin-2 c =
    let r = c.member-in-NoneWithin-3.result in
    rw c.in-NoneWithin.is (begun r _ _ c.in_ok-member-in-NoneWithin.ensures (begun r _ _ c.in_ok-member-in-NoneWithin-2.ensures c.member-in-NoneWithin-3.ensures))
