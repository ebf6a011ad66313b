use Rattle.std.proofs.Common.{◌-◌, take, All}
use Rattle.decision.specs.Callers.{Searches, IsAskedAfter}
use Rattle.problems.specs.Tried.{IsPassed}
use Rattle.decision.proofs.first.try_moves.Given as goal

-- the moves so far ended nothing, and the table was asked of the position after each
abbrev pub invariant-loop-m : goal.invariant-loop-m
invariant-loop-m g l =
    record {
      goes_on : Searches g.S.Stop.stays l.fn.caller l.caller l.fn.lead l.lead;
      passed : All (IsPassed l.q (l.n - 1) l.own) (take l.m-index l.moves);
      asked : All (IsAskedAfter l.q l.fn.caller l.caller) (take l.m-index l.moves);
    }
