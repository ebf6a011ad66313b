use Rattle.decision.proofs.leaf.is_reached.Goals as goal
use Rattle.moves.proofs.AtOnce.{mated_if, stale_if}

pub returns-then-check : goal.returns-then-check
returns-then-check c = mated_if c.args.goal c.args.board.now c.mover_in_check-check.result c.has_lawful_move.result c.in-Mate.is c.mover_in_check-check.ensures c.has_lawful_move.ensures c.if-check.true

pub returns-in-MateOrStale : goal.returns-in-MateOrStale
returns-in-MateOrStale c = stale_if c.args.goal c.args.board.now c.mover_in_check-check.result c.has_lawful_move-in-MateOrStale.result c.in-MateOrStale.is c.mover_in_check-check.ensures c.has_lawful_move-in-MateOrStale.ensures
