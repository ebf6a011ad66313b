use Rattle.std.proofs.Common.{◌∙◌, ◌++◌, take}
use Rattle.std.proofs.KnownBytes.{Appends-trans}
use Rattle.devices.proofs.DeviceLemmas.{front_moved}
use Rattle.devices.proofs.transfer.write_all.Goals as goal

pub writing-preserved : goal.writing-preserved
writing-preserved g c =
    let (written, split, appended, same) = c.writing.invariant in
    let rest = c.writing.rest.now in
    let count = c.in_ok-count.count in
    (written ++ take count rest, front_moved _ written rest count split, Appends-trans _ _ _ _ _ appended c.in_ok-count.ensures.bytes, c.in_ok-count.ensures.ok ∙ same)
