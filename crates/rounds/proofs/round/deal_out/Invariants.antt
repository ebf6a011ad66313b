use Rattle.std.proofs.Common.{◌≡◌, ◌+◌, ◌++◌, length, All, vec_capacity}
use Rattle.slots.specs.Promise.{IsSeatOf}
use Rattle.jobs.specs.Promise.{IsJobSeatOf}
use Rattle.rounds.specs.Shares.{IsShare, AreDealt, seats_back}
use Rattle.rounds.proofs.round.deal_out.Given as goal

-- each seat is left, or stands in a share
abbrev pub invariant-loop-dealt : goal.invariant-loop-dealt
invariant-loop-dealt g l =
    record {
      made : length l.shares.items ≡ l.dealt;
      thieves : length l.thieves.items ≡ l.dealt;
      seats : (length l.seats.items + l.dealt ≡ length l.fn.seats.items) × All (IsSeatOf l.fn.round.search.now.slots.now) l.seats.items;
      job_seats : (length l.job_seats.items + l.dealt ≡ length l.fn.seats.items) × All (IsJobSeatOf l.fn.round.least.now) l.job_seats.items;
      shares : All (IsShare g.J.Count.jobs l.fn.round) l.shares.items;
      same : l.seats.items ++ seats_back l.shares.items ≡ l.fn.seats.items;
      capacity : vec_capacity l.seats ≡ vec_capacity l.fn.seats;
      room : vec_capacity l.shares ≡ vec_capacity l.fn.shares;
      dealt : AreDealt g.J.Count.jobs (length l.fn.seats.items) l.shares.items;
    }
