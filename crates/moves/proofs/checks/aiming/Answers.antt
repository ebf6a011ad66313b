use Rattle.moves.proofs.Common.{sym, subst, other_side, cell_of, place_in, IsCell-cell_of, place_in-cell_of, to_on_board, Aims}
use Rattle.moves.proofs.Looking.{Aims-back}
use Rattle.moves.proofs.Checking.{knight_seen}
use Rattle.moves.proofs.checks.aiming.Goals as goal

pub returns-in-Knight : goal.returns-in-Knight
returns-in-Knight c = λ m p aims. c.requires.known.leaps (cell_of m.to) (knight_seen c.args.board.now m c.args.unit p (place_in c.args.info.king) c.in-Knight.is aims)

pub returns-in_default : goal.returns-in_default
returns-in_default c = λ m p aims.
    let b = c.args.board.now in
    let u = c.args.unit in
    let k = place_in c.args.info.king in
    let on = to_on_board b m u p in
    let there = subst (Aims b (record { side = other_side u.side; kind = u.kind }) k) (sym (place_in-cell_of b.game m.to on)) (Aims-back b u.side u.kind m.to k on aims) in
    (c.seen.ensures (cell_of m.to)).1 (IsCell-cell_of b.game m.to on, subst (λ x. Aims b (record { side = x; kind = u.kind }) k (place_in (cell_of m.to))) (sym c.other.ensures) there)
