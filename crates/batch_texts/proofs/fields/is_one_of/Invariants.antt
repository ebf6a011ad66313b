-- None of the bytes so far is it.
use Rattle.std.proofs.Common.{◌≡◌, drop}
use Rattle.batch_texts.specs.Fields.{is_one_of}
use Rattle.batch_texts.proofs.fields.is_one_of.Given as goal

abbrev pub invariant-loop-y : goal.invariant-loop-y
invariant-loop-y l = is_one_of (drop l.y-index l.bytes) l.x ≡ is_one_of l.bytes l.x
