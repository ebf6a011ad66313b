use Rattle.moves.proofs.Common.{ap, subst, ◌∙◌, other_side, AreAttacked}
use Rattle.moves.proofs.Kings.{king_of}
use Rattle.moves.proofs.Guarding.{no_kingless}
use Rattle.moves.proofs.board_list.mover_king.Goals as goal

pub unreachable-requires : goal.unreachable-requires
unreachable-requires c = no_kingless c.args.board.now c.mover-side.ensures.position c.mover-side.result c.in_default.ensures

pub returns-clause-king : goal.returns-clause-king
returns-clause-king c = c.in-Some.ensures.1 ∙ ap king_of c.mover-side.ensures.value

pub returns-clause-attacked : goal.returns-clause-attacked
returns-clause-attacked c = subst (λ s. AreAttacked c.args.board.now (other_side s) c.attacked.result) c.mover-side.ensures.value c.attacked.ensures
