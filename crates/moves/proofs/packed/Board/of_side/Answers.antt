use Rattle.moves.proofs.Common.{sym, subst, Owns}
use Rattle.board.specs.declared.game.Side.TheVariants as side
use Rattle.moves.specs.declared.sets.Class.TheVariants.{White, Black}
use Rattle.moves.proofs.Shown.{side-shown}
use Rattle.moves.proofs.packed.Board.of_side.Goals as goal

pub returns-in-White : goal.returns-in-White
returns-in-White c = subst (λ s. Owns c.args.self.now s c.set.result) (sym c.in-White.is) (side-shown c.args.self.now White side.White c.set.result (λ u. (λ e. e, λ e. e)) c.set.ensures)

pub returns-in-Black : goal.returns-in-Black
returns-in-Black c = subst (λ s. Owns c.args.self.now s c.set-in-Black.result) (sym c.in-Black.is) (side-shown c.args.self.now Black side.Black c.set-in-Black.result (λ u. (λ e. e, λ e. e)) c.set-in-Black.ensures)
