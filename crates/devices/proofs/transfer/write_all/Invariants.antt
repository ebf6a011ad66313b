-- What is gone from `rest` was written, no write has failed, and `rest` grows shorter.
use Rattle.std.proofs.Common.{◌≡◌, ℕ, List, ◌++◌, length}
use Rattle.std.specs.Io.KnownBytes.{Appends}
use Rattle.devices.proofs.transfer.write_all.Given as goal

abbrev pub invariant-writing : goal.invariant-writing
invariant-writing g l =
    (written : List ℕ) × (l.bytes ≡ written ++ l.rest) × Appends (g.K.Sink.contents l.initial.writer) (g.K.Sink.contents l.writer) written
    × (g.K.Sink.failures l.writer ≡ g.K.Sink.failures l.initial.writer)

abbrev pub decreases-writing : goal.decreases-writing
decreases-writing g l = length l.rest
