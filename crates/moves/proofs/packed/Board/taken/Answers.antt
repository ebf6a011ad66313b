use Rattle.moves.proofs.Common.{subst, Shows}
use Rattle.moves.proofs.Shown.{taken-shown}
use Rattle.moves.proofs.packed.Board.taken.Goals as goal

pub returns : goal.returns
returns c = taken-shown c.args.self.now c.self.inside.sets (subst (λ b. Shows b c.self.inside.sets) c.self.view_is c.self.invariant.shows)
