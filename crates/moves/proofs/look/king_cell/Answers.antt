use Rattle.moves.proofs.Common.{subst, Has, Has-zero}
use Rattle.moves.proofs.Owned.{kings-are}
use Rattle.moves.proofs.look.king_cell.Goals as goal

pub returns-then-kings-eq0 : goal.returns-then-kings-eq0
returns-then-kings-eq0 c = λ i cell stands. Has-zero i (subst (λ n. Has n i) c.if-kings-eq0.true ((kings-are c.args.board.now c.args.side _ _ c.of_side.ensures c.set.ensures i).1 (cell, stands)))

pub returns : goal.returns
returns c = (kings-are c.args.board.now c.args.side _ _ c.of_side.ensures c.set.ensures c.lowest.result).0 c.lowest.ensures.there
