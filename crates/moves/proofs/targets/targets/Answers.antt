use Rattle.moves.proofs.Reaching.{IsTarget-seen, IsTarget-pawn}
use Rattle.moves.proofs.targets.targets.Goals as goal

pub returns-in-Pawn : goal.returns-in-Pawn
returns-in-Pawn c = IsTarget-pawn c.args.board.now c.args.unit c.args.cell c.requires.cell c.in-Pawn.is c.requires.played c.seen-seen.result c.foes_of.result c.pushed.result c.seen-seen.ensures c.foes_of.ensures c.pushed.ensures

pub returns-in_default : goal.returns-in_default
returns-in_default c = IsTarget-seen c.args.board.now c.args.unit c.args.cell c.requires.played c.in_default.not-Pawn c.seen-seen.result c.of_side.result c.seen-seen.type_inv c.of_side.type_inv c.seen-seen.ensures c.of_side.ensures
