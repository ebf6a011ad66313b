use Rattle.moves.proofs.Common.{◌↔◌, IsTrue, sym, subst, Goal, IsReached}
use Rattle.moves.proofs.AtOnce.{stale_if}
use Rattle.moves.proofs.at_once.is_reached.Goals as goal

pub returns-in-Mate : goal.returns-in-Mate
returns-in-Mate c = subst (λ (g : Goal). IsTrue c.is_mated.result ↔ IsReached g c.args.board.now) (sym c.in-Mate.is) c.is_mated.ensures

pub returns-in-MateOrStale : goal.returns-in-MateOrStale
returns-in-MateOrStale c = stale_if c.args.goal c.args.board.now c.guard_of-guard.result.checked c.has_move.result c.in-MateOrStale.is c.guard_of-guard.ensures.guards.checked c.has_move.ensures
