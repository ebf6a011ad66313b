use Rattle.std.proofs.Common.{sym, ap, subst}
use Rattle.rules.specs.Squares.{Ply, IsOnBoard}
use Rattle.rules.proofs.Keeps.{to_on_board}
use Rattle.acceptance.proofs.order_at_first.worth_taken.Goals as goal

pub unit_at-requires : goal.unit_at-requires
unit_at-requires c =
    let move = c.requires.1 in
    subst (IsOnBoard c.args.board.now.game) (sym (ap (λ (m : Ply). m.to) c.m.view_is)) (to_on_board c.args.board.now c.args.m move.unit move.pseudo)
