use Rattle.moves.proofs.Common.{◌≡◌, ℕ, Some, sym, ap, subst, ◌∙◌, false≢true, King, Knight, other_side, unit_at, IsInCheck, place_in, IsCell, IsPinned, IsCalm, IsTarget, Has}
use Rattle.moves.proofs.Kings.{check_at}
use Rattle.moves.proofs.checks.check_info.Goals as goal

pub returns : goal.returns
returns c =
    let b = c.args.board.now in
    let k = c.in_ok-king.king in
    let s = c.other-foe.result in
    let foe : s ≡ other_side b.mover = c.other-foe.ensures ∙ ap other_side c.mover-own.ensures.value in
    let cell = c.in_ok-king.ensures.0 in
    let safe : IsInCheck b s → ⊥ = λ check. false≢true (sym c.if-has.false ∙ c.has.ensures.1 ((c.attacked-attacked.ensures k).1 (cell, check_at b c.mover-own.ensures.position s (place_in k) cell.on_board c.in_ok-king.ensures.1 check))) in
    record {
      cell = cell;
      king = subst (λ s. unit_at b (place_in k) ≡ Some (record { side = s; kind = King })) foe c.in_ok-king.ensures.1;
      safe = λ check. safe (subst (IsInCheck b) (sym foe) check);
      uncovers = subst (λ s. (i : ℕ) → IsCell b.game i → IsPinned b s (place_in k) (place_in i) → Has c.pinned.result i) foe c.pinned.ensures;
      steps = λ i h. subst (λ s. IsTarget b (record { side = s; kind = King }) (place_in k) i × IsCalm b (place_in i) s) foe ((c.calm_steps.ensures i).0 h);
      leaps = λ i t. (c.targets.ensures i).1 (subst (λ s. IsTarget b (record { side = s; kind = Knight }) (place_in k) i) (sym c.mover-own.ensures.value) t);
    }
