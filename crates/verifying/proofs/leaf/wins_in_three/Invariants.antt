use Rattle.std.proofs.Common.{All, take, true}
use Rattle.verifying.proofs.Common.{question, IsPassed}
use Rattle.verifying.proofs.leaf.wins_in_three.Given as goal

-- none of the moves so far wins
abbrev pub invariant-loop-m : goal.invariant-loop-m
invariant-loop-m l = All (IsPassed (question l.board l.board.mover l.goal) 2 true) (take l.m-index l.m-items)
