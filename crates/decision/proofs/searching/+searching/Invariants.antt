use Rattle.std.proofs.Common.{◌+◌, ◌*◌, ◌-◌, ◌≤◌, take, All, ◌≡◌, false}
use Rattle.decision.specs.Callers.{Searches}
use Rattle.decision.specs.Questions.{IsKnownOf}
use Rattle.problems.specs.Tried.{IsPassed}
use Rattle.decision.proofs.searching.+searching.Given as goal

abbrev pub decreases-visit : goal.decreases-visit
decreases-visit g l = 10 * l.n + 9

abbrev pub decreases-search_from : goal.decreases-search_from
decreases-search_from g l = 10 * l.n + 8

abbrev pub decreases-search_in_rounds : goal.decreases-search_in_rounds
decreases-search_in_rounds g l = 10 * l.n + 7

abbrev pub decreases-search : goal.decreases-search
decreases-search g l = 10 * l.n + 6

abbrev pub decreases-search_many : goal.decreases-search_many
decreases-search_many g l = 10 * l.n + 5

abbrev pub decreases-search_listed : goal.decreases-search_listed
decreases-search_listed g l = 10 * l.n + 4

abbrev pub decreases-search_entered : goal.decreases-search_entered
decreases-search_entered g l = 10 * l.n + 2

abbrev pub decreases-try_free : goal.decreases-try_free
decreases-try_free g l = 10 * l.n + 1

abbrev pub decreases-try_listed : goal.decreases-try_listed
decreases-try_listed g l = 10 * l.n

-- the moves so far ended nothing
abbrev pub invariant-try_listed-loop-m : goal.invariant-try_listed-loop-m
invariant-try_listed-loop-m g l =
    record {
      goes_on : Searches g.S.Stop.stays l.fn.caller l.caller l.fn.lead l.lead;
      passed : All (IsPassed l.q (l.n - 1) l.own) (take l.m-index l.moves);
    }

-- as long as none was put off, the moves so far ended nothing
abbrev pub invariant-try_free-loop-place : goal.invariant-try_free-loop-place
invariant-try_free-loop-place g l =
    record {
      goes_on : Searches g.S.Stop.stays l.fn.caller l.caller l.fn.lead l.lead;
      passed : l.some_put_off ≡ false → All (IsPassed l.q (l.n - 1) l.own) (take l.place l.moves);
    }

-- what is known stays right, round by round
abbrev pub invariant-search_in_rounds-loop-yes : goal.invariant-search_in_rounds-loop-yes
invariant-search_in_rounds-loop-yes g l =
    record {
      goes_on : Searches g.S.Stop.stays l.fn.caller l.caller l.fn.lead l.lead;
      known : IsKnownOf l.q l.known;
      plies : l.plies ≤ l.n;
    }

abbrev pub decreases-search_in_rounds-loop-yes : goal.decreases-search_in_rounds-loop-yes
decreases-search_in_rounds-loop-yes g l = l.n - l.plies
