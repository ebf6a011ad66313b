use Rattle.moves.proofs.Common.{sym, subst, ◌∙◌, false≢true, place_in, IsPinned, not_so}
use Rattle.moves.proofs.Kings.{check_from}
use Rattle.moves.proofs.Blocking.{HasBlocks-all}
use Rattle.moves.proofs.Attacking.{unattacked}
use Rattle.moves.proofs.Shadows.{pinned_attacks}
use Rattle.moves.proofs.board_list.guard_of.Goals as goal

pub returns-clause-guards : goal.returns-clause-guards
returns-clause-guards c =
    let b = c.args.board.now in
    let k = c.mover_king-king.result.0 in
    let e = c.mover_king-king.ensures in
    let out = unattacked b e.position k c.mover_king-king.result.1 e.cell e.king e.attacked (λ h. false≢true (sym c.if-has.false ∙ c.has.ensures.1 h)) in
    record {
      cell = e.cell;
      king = e.king;
      attacked = e.attacked;
      checked = not_so out;
      pins = λ _ i cell w. c.pinned.ensures i cell (subst (λ s. IsPinned b s (place_in k) (place_in i)) (sym c.mover.ensures.value) w);
      blocks = HasBlocks-all b;
      shadow = λ i cell w. absurd (out (check_from b b.mover (place_in k) e.cell.on_board e.king (w.from, pinned_attacks b e.position b.mover (place_in i) (place_in k) w)));
    }
