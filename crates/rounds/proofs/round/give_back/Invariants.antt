use Rattle.std.proofs.Common.{◌≡◌, ◌+◌, ◌≤◌, ◌++◌, length, vec_capacity}
use Rattle.rounds.specs.Shares.{seats_back}
use Rattle.rounds.proofs.round.give_back.Given as goal

-- each seat stands in a share still, or went back
abbrev pub invariant-loop-share : goal.invariant-loop-share
invariant-loop-share g l =
    record {
      same : l.fn.seats.items ++ seats_back l.fn.shares.items ≡ l.seats.items ++ seats_back l.shares.items;
      room : length l.seats.items + length l.shares.items ≤ vec_capacity l.seats;
    }

abbrev pub decreases-loop-share : goal.decreases-loop-share
decreases-loop-share g l = length l.shares.items
