use Rattle.refusals.proofs.Telling.{text_of, text_then}
use Rattle.refusals.proofs.sentence.write_next.Goals as goal

pub returns : goal.returns
returns g c = text_then _ _ _ (text_of _ _ _ c.in_ok-write_all.ensures.bytes) c.in_ok-write_part.ensures
