use Rattle.std.proofs.Common.{subst, sym}
use Rattle.rules.specs.Squares.{Ply, IsOnBoard}
use Rattle.rules.proofs.Keeps.{to_on_board}
use Rattle.algebraic.proofs.naming.Notation.name.Goals as goal

pub unit_at-requires : goal.unit_at-requires
unit_at-requires c =
    let P : Ply → Type 0 = λ m. IsOnBoard c.args.board.now.game m.to in
    subst P (sym c.m.view_is) (to_on_board _ _ _ c.requires.1.pseudo)
