use Rattle.std.proofs.Common.{subst, ◌∙◌}
use Rattle.board.specs.Board.{PlainBoard}
use Rattle.rules.specs.declared.goal.Goal.{Goal}
use Rattle.problems.specs.Roots.{EndsRound}
use Rattle.problems.proofs.Jobs.{none_moves, least_move, move_at}
use Rattle.problems.proofs.Winning.{none_forced}
use Rattle.searcher.specs.Best.{IsBestMove}
use Rattle.searcher.proofs.best.best_move.Goals as goal

pub returns-in_err-job-clause-goes : goal.returns-in_err-job-clause-goes
returns-in_err-job-clause-goes g c = g.met.D.Decider.goes_on _ _ _ c.fewest_plies.ensures.goes c.least_win.ensures.goes

pub unreachable-requires : goal.unreachable-requires
unreachable-requires g c =
    let r = c.on-root.result in
    let n = c.in_ok-plies.plies in
    let fewest = c.in_ok-plies.ensures.fewest in
    none_forced r.goal r.board n fewest.0.0 (none_moves r.goal r.board n r.moves.items c.on-root.ensures.lists (subst (EndsRound r n) c.in-None.is c.in_ok-job.ensures.least)) fewest.1.forced

pub returns-clause-goes : goal.returns-clause-goes
returns-clause-goes g c = g.met.D.Decider.goes_on _ _ _ c.fewest_plies.ensures.goes c.least_win.ensures.goes

pub returns-clause-best : goal.returns-clause-best
returns-clause-best g c =
    let r = c.on-root.result in
    let n = c.in_ok-plies.plies in
    let is = move_at r.moves.items c.deref.result.now c.from.result c.in-Some.job c.index-deref-from.result c.deref.ensures.0 c.from.ensures c.index-deref-from.is in
    subst (λ (p : Goal × PlainBoard). IsBestMove p.0 p.1 c.index-deref-from.result) (λ i. (c.on-root.ensures.goal i, (c.on-root.ensures.position ∙ c.copied.ensures) i))
    (n, c.in_ok-plies.ensures.fewest.1, least_move r.goal r.board n r.moves.items c.on-root.ensures.lists c.in-Some.job c.index-deref-from.result is (subst (EndsRound r n) c.in-Some.is c.in_ok-job.ensures.least))
