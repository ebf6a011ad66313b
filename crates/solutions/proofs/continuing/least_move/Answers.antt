use Rattle.std.proofs.Common.{sym, subst, ◌∙◌}
use Rattle.solutions.proofs.Common.{PlainBoard, Goal, IsFewest, IsLeastWin, none_forced, EndsRound, none_moves, least_move, move_at}
use Rattle.solutions.proofs.continuing.least_move.Goals as goal

pub unreachable-requires : goal.unreachable-requires
unreachable-requires g c =
    let r = c.on-root.result in
    let n = c.args.plies in
    let fewest = subst (λ (p : Goal × PlainBoard). IsFewest p.0 p.1 n) (λ i. ((sym c.on-root.ensures.goal) i, (sym (c.on-root.ensures.position ∙ c.copied.ensures)) i)) c.requires.fewest in
    none_forced r.goal r.board n c.requires.plies.0 (none_moves r.goal r.board n r.moves.items c.on-root.ensures.lists (subst (EndsRound r n) c.in-None.is c.in_ok-job.ensures.least)) fewest.forced

pub returns-clause-least : goal.returns-clause-least
returns-clause-least g c =
    let r = c.on-root.result in
    let n = c.args.plies in
    let is = move_at r.moves.items c.deref.result.now c.from.result c.in-Some.job c.index-deref-from.result c.deref.ensures.0 c.from.ensures c.index-deref-from.is in
    subst (λ (p : Goal × PlainBoard). IsLeastWin p.0 p.1 n c.index-deref-from.result) (λ i. (c.on-root.ensures.goal i, (c.on-root.ensures.position ∙ c.copied.ensures) i))
    (least_move r.goal r.board n r.moves.items c.on-root.ensures.lists c.in-Some.job c.index-deref-from.result is (subst (EndsRound r n) c.in-Some.is c.in_ok-job.ensures.least))
