use Rattle.refusals.proofs.Telling.{text_of, text_then}
use Rattle.refusals.proofs.sentence.write_moves.Goals as goal

pub loop-m-preserved : goal.loop-m-preserved
loop-m-preserved g c = text_then _ _ _ c.loop-m.invariant (text_of _ _ _ c.in_ok-write.ensures.bytes)
