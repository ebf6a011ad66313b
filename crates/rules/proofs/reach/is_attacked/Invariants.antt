use Rattle.std.proofs.Common.{◌<◌}
use Rattle.rules.proofs.Common.{Place, IsOnBoard, square_number, AttacksFrom}
use Rattle.rules.proofs.reach.is_attacked.Given as goal

-- no square so far attacks this one
abbrev pub invariant-loop-number : goal.invariant-loop-number
invariant-loop-number l = (s : Place) → IsOnBoard l.game s → square_number l.game s < l.number → AttacksFrom l.position l.side s l.square → ⊥
