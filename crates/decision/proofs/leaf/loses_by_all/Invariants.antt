use Rattle.std.proofs.Common.{take, All, false}
use Rattle.problems.specs.Tried.{IsPassed}
use Rattle.decision.proofs.leaf.loses_by_all.Given as goal

-- each reply so far is met
abbrev pub invariant-loop-m : goal.invariant-loop-m
invariant-loop-m l = All (IsPassed l.q 1 false) (take l.m-index l.m-items)
