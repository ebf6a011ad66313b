use Rattle.std.proofs.Common.{All, false, take}
use Rattle.verifying.proofs.Common.{other_side, question, IsPassed}
use Rattle.verifying.proofs.leaf.loses_in_two.Given as goal

-- each move so far loses
abbrev pub invariant-loop-m : goal.invariant-loop-m
invariant-loop-m l = All (IsPassed (question l.board (other_side l.board.mover) l.goal) 1 false) (take l.m-index l.m-items)
