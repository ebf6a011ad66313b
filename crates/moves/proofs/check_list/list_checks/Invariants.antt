use Rattle.moves.proofs.Common.{◌≤◌, take, length, Ply, GivesCheck, IsPlyBefore}
use Rattle.moves.proofs.Picking.{InOrder, Picks}
use Rattle.moves.proofs.check_list.list_checks.Given as goal

-- the checks among the moves so far
abbrev pub invariant-loop-m : goal.invariant-loop-m
invariant-loop-m l =
    record {
      few : length l.moves.items ≤ l.m-index;
      ordered : InOrder (IsPlyBefore l.board.game) (λ (m : Ply). m) (GivesCheck l.board) l.moves.items;
      exact : Picks (IsPlyBefore l.board.game) (λ (m : Ply). m) (GivesCheck l.board) (take l.m-index l.m-items) l.moves.items;
    }
