-- No space stands before this place.
use Rattle.std.proofs.Common.{take}
use Rattle.batch_texts.proofs.FieldLemmas.{HasNoSpace}
use Rattle.batch_texts.proofs.fields.split_field.Given as goal

abbrev pub invariant-loop-place : goal.invariant-loop-place
invariant-loop-place l = HasNoSpace (take l.place l.text)
