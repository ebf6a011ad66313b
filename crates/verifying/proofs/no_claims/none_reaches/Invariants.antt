use Rattle.std.proofs.Common.{take, All}
use Rattle.verifying.specs.Certificate.{ReachesNothing}
use Rattle.verifying.proofs.no_claims.none_reaches.Given as goal

-- none of the moves so far reaches the goal
abbrev pub invariant-loop-m : goal.invariant-loop-m
invariant-loop-m l = All (ReachesNothing l.goal l.board) (take l.m-index l.moves)
