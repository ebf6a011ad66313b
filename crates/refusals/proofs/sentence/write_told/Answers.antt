use Rattle.refusals.proofs.Telling.{ok_text, ok_then, text_then}
use Rattle.refusals.proofs.sentence.write_told.Goals as goal

pub returns : goal.returns
returns g c =
    let two = text_then _ _ _ c.in_ok-text.ensures c.in_ok-text-2.ensures in
    let more = text_then _ _ _ c.in_ok-text-3.ensures c.in_ok-text-4.ensures in
    ok_then _ _ _ _ (text_then _ _ _ two more) (ok_text _ _ _ _ c.write_all.ensures.bytes)
