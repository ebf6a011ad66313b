use Rattle.std.proofs.Common.{◌≡◌, All, vec_len}
use Rattle.jobs.specs.Promise.{IsNewJobSeatOf}
use Rattle.jobs.proofs.job_board.Least.deal.Given as goal

abbrev pub invariant-loop : goal.invariant-loop
invariant-loop g l = record {
  first : IsNewJobSeatOf l.self l.first;
  all : All (IsNewJobSeatOf l.self) l.seats.items;
  len : vec_len l.seats ≡ l.counter;
}
