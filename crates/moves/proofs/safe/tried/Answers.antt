use Rattle.moves.proofs.Common.{◌≡◌, Some, sym, ap, subst, ◌∙◌, false≢true, King, other_side, unit_at, cell_of, place_in, AreAttacked, IsTarget}
use Rattle.moves.proofs.SafeCells.{calm_target, calm_all}
use Rattle.moves.proofs.AtOnce.{pseudo_by, move_by}
use Rattle.moves.proofs.Checking.{IsTarget-move}
use Rattle.moves.proofs.safe.tried.Goals as goal

pub calm_steps-requires-clause-attacked : goal.calm_steps-requires-clause-attacked
calm_steps-requires-clause-attacked c = subst (λ s. AreAttacked c.args.board.now (other_side s) c.args.guard.attacked) (sym c.requires.owner) c.requires.guards.attacked

pub returns-then-is_king : goal.returns-then-is_king
returns-then-is_king c =
    let king = c.is_king.ensures.0 c.if-is_king.true in
    record {
      reached = calm_target c.args.board.now c.args.unit (place_in c.args.from) c.requires.position king c.requires.owner c.requires.stands c.calm_steps.result c.calm_steps.ensures;
      all = calm_all c.args.board.now c.args.unit (place_in c.args.from) c.requires.position king c.requires.owner c.requires.stands c.calm_steps.result c.calm_steps.ensures;
    }

pub returns-clause-all : goal.returns-clause-all
returns-clause-all c = λ m at l.
    let b = c.args.board.now in
    let u = c.args.unit in
    let stands : unit_at b m.from ≡ Some u = ap (unit_at b) at ∙ c.requires.stands in
    let pseudo = pseudo_by b m u stands l in
    let piece : u.kind ≡ King → ⊥ = λ e. false≢true (sym c.if-is_king.false ∙ c.is_king.ensures.1 e) in
    (c.common.ensures (cell_of m.to)).1 (
      (c.targets.ensures (cell_of m.to)).1 (subst (λ s. IsTarget b u s (cell_of m.to)) at (IsTarget-move b m u pseudo)),
      c.requires.guards.blocks m u pseudo piece (move_by b m u stands l).safe,
    )
