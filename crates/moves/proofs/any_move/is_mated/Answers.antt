use Rattle.moves.proofs.Common.{not, sym, ap, ◌∙◌, false≢true, not_so}
use Rattle.moves.proofs.Attacking.{unattacked}
use Rattle.moves.proofs.AtOnce.{mated_exactly}
use Rattle.moves.proofs.any_move.is_mated.Goals as goal

pub returns-then-not-has : goal.returns-then-not-has
returns-then-not-has c =
    let e = c.mover_king-king.ensures in
    not_so (λ mated. unattacked c.args.board.now c.requires c.mover_king-king.result.0 c.mover_king-king.result.1 e.cell e.king e.attacked (λ h. false≢true (sym c.if-not-has.true ∙ c.has.ensures.1 h)) mated.check)

pub returns-then-not-has_king_move : goal.returns-then-not-has_king_move
returns-then-not-has_king_move c =
    mated_exactly c.args.board.now c.has_move.result (c.guard_in_check-checkers.ensures.guards.checked.0 c.guard_in_check-checkers.ensures.checked) c.has_move.ensures

pub returns-else-not-has_king_move : goal.returns-else-not-has_king_move
returns-else-not-has_king_move c = (
  λ never. absurd (false≢true (sym (ap not c.if-not-has_king_move.false) ∙ never)),
  λ mated. absurd (let w = c.has_king_move.ensures.found c.if-not-has_king_move.false in mated.no_move w.0 w.1),
)
