use Rattle.moves.proofs.Common.{inl, inr, sym, subst, ◌∙◌, false≢true, other_side, unit_at, Reaches, cell_of, place_in, IsPinned, IsTarget}
use Rattle.moves.proofs.Checking.{who_checks, IsTarget-move}
use Rattle.moves.proofs.checks.checking.Goals as goal

pub returns-then-reached-eq0-clause-all : goal.returns-then-reached-eq0-clause-all
returns-then-reached-eq0-clause-all c = λ m p at check.
    let b = c.args.board.now in
    (c.targets-reached.ensures (cell_of m.to)).1 (subst (λ s. IsTarget b c.args.unit s (cell_of m.to)) at (IsTarget-move b m c.args.unit p))

pub returns-clause-all : goal.returns-clause-all
returns-clause-all c = λ m p at check.
    let b = c.args.board.now in
    let u = c.args.unit in
    let k = place_in c.args.info.king in
    let w = c.requires.known in
    elim (who_checks b m u c.requires.position p k w.cell.on_board w.king w.safe check) [
      | inl named ↦ absurd (false≢true (sym c.if-may_promote.false ∙ (c.may_promote.ensures m.to (subst (λ s. Reaches b u s m.to (unit_at b m.to)) (at ∙ sym c.square_in.ensures) p.reaches)).1 (p.named.0 named)))
      | inr (inl aims) ↦ (c.common.ensures (cell_of m.to)).1 (
        (c.targets-reached.ensures (cell_of m.to)).1 (subst (λ s. IsTarget b u s (cell_of m.to)) at (IsTarget-move b m u p)),
        c.aiming.ensures m p aims,
      )
      | inr (inr pinned) ↦ absurd (false≢true (sym c.if-has.false ∙ c.has.ensures.1 (w.uncovers c.args.from c.requires.cell (subst (IsPinned b (other_side b.mover) k) at pinned))))
    ]
