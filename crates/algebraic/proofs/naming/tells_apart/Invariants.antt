use Rattle.std.proofs.Common.{All, take}
use Rattle.algebraic.specs.Naming.{IsRival, LooksAlike}
use Rattle.algebraic.proofs.naming.tells_apart.Given as goal

-- no rival so far looks alike
abbrev pub invariant-loop-other : goal.invariant-loop-other
invariant-loop-other l = All (λ n. (IsRival l.board l.kind l.m n × LooksAlike l.origin n.from l.m.from) → ⊥) (take l.other-index l.moves)
