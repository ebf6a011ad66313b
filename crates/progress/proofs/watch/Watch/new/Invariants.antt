-- so far one of each job
use Rattle.std.proofs.Common.{◌≡◌, vec_len}
use Rattle.progress.proofs.watch.Watch.new.Given as goal

abbrev pub invariant-loop-job : goal.invariant-loop-job
invariant-loop-job l = vec_len l.known ≡ l.job
