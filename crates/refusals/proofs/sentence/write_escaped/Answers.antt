use Rattle.refusals.proofs.Telling.{text_then}
use Rattle.refusals.proofs.sentence.write_escaped.Goals as goal

pub loop-preserved : goal.loop-preserved
loop-preserved g c = text_then _ _ _ c.loop.invariant c.in_ok-rest.ensures
