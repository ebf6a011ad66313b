use Rattle.std.proofs.Common.{◌≡◌, take}
use Rattle.wintree.proofs.Common.{moves_in}
use Rattle.wintree.proofs.wins.agreeing.Given as goal

abbrev pub invariant-loop-i : goal.invariant-loop-i
invariant-loop-i g l = take l.i (moves_in l.replies) ≡ take l.i l.moves
