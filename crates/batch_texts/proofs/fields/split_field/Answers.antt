use Rattle.std.proofs.Common.{◌≡◌, ◌∙◌, ◌+◌, ◌-◌, ◌++◌, ◌∷◌, ap, arith, drop, length, subst, take}
use Rattle.std.proofs.lemmas.Grind.{common_steps}
use Rattle.batch_texts.specs.Fields.{fields_of}
use Rattle.batch_texts.proofs.FieldLemmas.{HasNoSpace, first_field, one_field}
use Rattle.batch_texts.proofs.fields.split_field.Goals as goal

pub returns-then-text-place-eq32-clause-fields : goal.returns-then-text-place-eq32-clause-fields
returns-then-text-place-eq32-clause-fields c =
    let text = c.args.text.now in
    let front = take c.loop-place.place text in
    let rest = take (length text - (c.loop-place.place + 1)) (drop (c.loop-place.place + 1) text) in
    let parts : text ≡ front ++ 32 ∷ rest = grind (arith, common_steps) in
    ap fields_of parts ∙ first_field front rest c.loop-place.invariant

pub returns-clause-fields : goal.returns-clause-fields
returns-clause-fields c =
    let text = c.args.text.now in
    let all : take c.loop-place.place text ≡ text = grind (arith, common_steps) in
    one_field text (subst HasNoSpace all c.loop-place.invariant)
