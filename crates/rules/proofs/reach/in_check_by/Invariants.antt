use Rattle.std.proofs.Common.{◌<◌}
use Rattle.rules.proofs.Common.{Place, IsOnBoard, square_number, IsCheckAt}
use Rattle.rules.proofs.reach.in_check_by.Given as goal

-- the king stands on no square so far, or isn't attacked there
abbrev pub invariant-loop-number : goal.invariant-loop-number
invariant-loop-number l = (s : Place) → IsOnBoard l.game s → square_number l.game s < l.number → IsCheckAt l.position l.side s → ⊥
