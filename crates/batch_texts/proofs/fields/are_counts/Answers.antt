use Rattle.std.proofs.Common.{rules}
use Rattle.batch_texts.proofs.FieldLemmas.{too_many}
use Rattle.batch_texts.proofs.fields.are_counts.Goals as goal

pub returns-in_default-Some-split_field-3 : goal.returns-in_default-Some-split_field-3
returns-in_default-Some-split_field-3 c =
    too_many c.args.text.now c.split_field.result.0.now c.split_field-2.result.0.now c.split_field-3.result.0.now c.split_field-4.result.0.now
    c.in_default-Some.rest.now c.in_default-Some-split_field.rest.now c.in_default-Some-split_field-2.rest.now c.in_default-Some-split_field-3.field-0-1.now
    (search rules) (search rules) (search rules) (search rules)
