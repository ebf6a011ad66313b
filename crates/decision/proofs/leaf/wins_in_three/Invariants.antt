use Rattle.std.proofs.Common.{take, All, true}
use Rattle.problems.specs.Tried.{IsPassed}
use Rattle.decision.proofs.leaf.wins_in_three.Given as goal

-- none of the moves so far wins
abbrev pub invariant-loop-m : goal.invariant-loop-m
invariant-loop-m l = All (IsPassed l.q 2 true) (take l.m-index l.m-items)
