use Rattle.std.proofs.Common.{rules}
use Rattle.batch_texts.proofs.FieldLemmas.{two_fields}
use Rattle.batch_texts.proofs.fields.position_of.Goals as goal

pub returns : goal.returns
returns c =
    let one = c.in_default-Some in
    let two = c.in_default-Some-split_field in
    two_fields c.args.text.now c.split_field.result.0.now one.behind.now c.split_field-2.result.0.now two.counts.now
    (search rules) (search rules) (search rules) (search rules) (search rules)
