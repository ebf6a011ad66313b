-- so far one of each job
use Rattle.std.proofs.Common.{◌≡◌, vec_len}
use Rattle.progress.proofs.watch.Watch.all_known.Given as goal

abbrev pub invariant-loop-known : goal.invariant-loop-known
invariant-loop-known l = vec_len l.all ≡ l.known-index
