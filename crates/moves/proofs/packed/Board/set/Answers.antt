use Rattle.moves.proofs.Common.{sym, subst, Holds, Shows}
use Rattle.moves.proofs.packed.Board.set.Goals as goal

pub returns : goal.returns
returns c = subst (Holds c.args.self.now c.args.class) (sym c.of_class.ensures) (subst (λ b. Shows b c.self.inside.sets) c.self.view_is c.self.invariant.shows c.args.class)
