-- What was read is what the reader lost, and no read has failed.
use Rattle.std.proofs.Common.{◌≡◌, ◌-◌, ◌+◌, vec_len}
use Rattle.std.specs.Io.KnownBytes.{Consumes}
use Rattle.devices.proofs.transfer.read_all.Given as goal

abbrev pub invariant-reading : goal.invariant-reading
invariant-reading g l =
    Consumes (g.S.Source.remaining l.initial.reader) (g.S.Source.remaining l.reader) l.bytes.items
    × (g.S.Source.failures l.reader ≡ g.S.Source.failures l.initial.reader)

abbrev pub decreases-reading : goal.decreases-reading
decreases-reading g l = l.most + 1 - vec_len l.bytes
