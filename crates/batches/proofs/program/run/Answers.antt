use Rattle.std.proofs.Common.{inl, refl, arith}
use Rattle.std.proofs.KnownBytes.{Appends-nil}
use Rattle.batches.proofs.program.run.Goals as goal

pub returns-in-Err-Words-clause-runs : goal.returns-in-Err-Words-clause-runs
returns-in-Err-Words-clause-runs g c =
    let words = c.in-Err-Words in
    inl (words.ensures.refused words.field-0-is, (refl, Appends-nil _, omega arith))
