use Rattle.moves.proofs.Common.{sym, subst, ◌∙◌, false≢true, place_in, other_side, AreAttacked}
use Rattle.moves.proofs.SafeCells.{calm_safe, free_safe}
use Rattle.moves.proofs.safe.free_cells.Goals as goal

pub calm_steps-requires-clause-attacked : goal.calm_steps-requires-clause-attacked
calm_steps-requires-clause-attacked c = subst (λ s. AreAttacked c.args.board.now (other_side s) c.args.guard.attacked) (sym c.requires.owner) c.requires.guards.attacked

pub returns-then-is_king : goal.returns-then-is_king
returns-then-is_king c =
    calm_safe c.args.board.now c.args.unit (place_in c.args.from) c.requires.position (c.is_king.ensures.0 c.if-is_king.true) c.requires.owner c.requires.stands c.calm_steps.result c.calm_steps.ensures
    c.requires.cell.on_board (λ check. false≢true (sym c.if-guard.false ∙ c.requires.guards.checked.1 check))

pub returns : goal.returns
returns c =
    let b = c.args.board.now in
    let g = c.requires.guards in
    free_safe b c.args.unit (place_in c.args.from) (place_in c.args.guard.king) c.requires.position c.requires.cell.on_board c.requires.stands c.requires.owner (λ e. false≢true (sym c.if-is_king.false ∙ c.is_king.ensures.1 e))
    g.cell.on_board g.king (λ check. false≢true (sym c.if-guard.false ∙ g.checked.1 check)) (λ pin. false≢true (sym c.if-has.false ∙ c.has.ensures.1 (g.pins c.if-guard.false c.args.from c.requires.cell pin)))
    c.except.result (λ j. (
      λ h. let w = (c.except.ensures j).0 h in let t = (c.targets-reached.ensures j).0 w.0 in (t, λ there. w.1 ((c.kings.ensures j).1 (t.0, there))),
      λ w. (c.except.ensures j).1 ((c.targets-reached.ensures j).1 w.0, λ there. w.1 ((c.kings.ensures j).0 there).1),
    ))
