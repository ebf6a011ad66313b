use Rattle.std.proofs.Common.{All, take}
use Rattle.solutions.specs.Changes.{IsAlike}
use Rattle.solutions.proofs.changing.is_changed.Given as goal

-- none so far is alike
abbrev pub invariant-loop-m : goal.invariant-loop-m
invariant-loop-m l = All (λ m. IsAlike l.board m l.set.board l.set.first → ⊥) (take l.m-index l.moves)
