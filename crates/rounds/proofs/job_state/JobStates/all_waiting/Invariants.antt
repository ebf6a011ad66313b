use Rattle.std.proofs.Common.{◌≡◌, length}
use Rattle.rounds.proofs.job_state.JobStates.all_waiting.Given as goal

abbrev pub invariant-loop : goal.invariant-loop
invariant-loop l = length l.words.items ≡ l.counter
