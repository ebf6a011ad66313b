use Rattle.moves.proofs.Common.{via}
use Rattle.moves.proofs.Owned.{crowned}
use Rattle.moves.proofs.packed.Board.kings.Goals as goal

pub returns : goal.returns
returns c = λ i. via (c.set.ensures i) (crowned c.args.self.now i)
