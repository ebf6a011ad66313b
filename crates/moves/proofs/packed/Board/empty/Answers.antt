use Rattle.moves.proofs.Common.{ℕ, ◌↔◌, subst, IsCell, Has}
use Rattle.moves.proofs.Shown.{empty-shown}
use Rattle.moves.proofs.packed.Board.empty.Goals as goal

pub returns : goal.returns
returns c = empty-shown c.args.self.now c.cells.result c.taken.result c.cells.type_inv c.taken.type_inv (subst (λ g. (i : ℕ) → Has c.cells.result i ↔ IsCell g i) c.game.ensures.value c.cells.ensures) c.taken.ensures
