use Rattle.moves.proofs.Common.{subst, PlainBoard, IsInCheck, one_after}
use Rattle.moves.proofs.look.gives_check.Goals as goal

pub returns : goal.returns
returns c = (
  λ e. (c.after-next.result, c.after-next.ensures, c.mover_in_check.ensures.0 e),
  λ (x, move, check). c.mover_in_check.ensures.1 (subst (λ (y : PlainBoard). IsInCheck y y.mover) (one_after c.args.board.now c.args.m x c.after-next.result move c.after-next.ensures) check),
)
