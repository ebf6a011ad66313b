use Rattle.refusals.proofs.Telling.{text_of, text_then}
use Rattle.refusals.proofs.sentence.write_byte.Goals as goal

pub loop-c-preserved : goal.loop-c-preserved
loop-c-preserved g c = text_then _ _ _ c.loop-c.invariant (text_of _ _ _ c.in_ok-write_all.ensures.bytes)
