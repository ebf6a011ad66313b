-- The bytes so far are of these.
use Rattle.std.proofs.Common.{◌≡◌, drop}
use Rattle.batch_texts.specs.Fields.{all_of}
use Rattle.batch_texts.proofs.fields.all_of.Given as goal

abbrev pub invariant-loop-x : goal.invariant-loop-x
invariant-loop-x l = all_of l.bytes (drop l.x-index l.field) ≡ all_of l.bytes l.field
