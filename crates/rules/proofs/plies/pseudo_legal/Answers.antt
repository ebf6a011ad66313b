use Rattle.std.proofs.Common.{◌≡◌, sym, ap, ◌∙◌}
use Rattle.rules.proofs.Common.{false≢true, Ply}
use Rattle.rules.proofs.Keeps.{to_on_board}
use Rattle.rules.proofs.plies.pseudo_legal.Goals as goal
use Rattle.rules.proofs.plies.pseudo_legal.Goals.{then-not-is_on_board-via-then-not-is_on_board, then-not-is_on_board-via-else-not-is_on_board+then-not-is_on_board-2}

pub returns-then-not-is_on_board : goal.returns-then-not-is_on_board
returns-then-not-is_on_board c = λ u p.
    let from : c.m.inside.from ≡ c.args.m.from = ap (λ (x : Ply). x.from) c.m.view_is in
    let to : c.m.inside.to ≡ c.args.m.to = ap (λ (x : Ply). x.to) c.m.view_is in
    elim c.then-not-is_on_board.branch [
      | then-not-is_on_board-via-then-not-is_on_board w ↦
          false≢true (sym w.if-not-is_on_board.true ∙ c.is_on_board.ensures.1 (rw (c.game-game.ensures.value, from) p.on_board))
      | then-not-is_on_board-via-else-not-is_on_board+then-not-is_on_board-2 w ↦
          false≢true (sym w.if-not-is_on_board-2.true ∙ w.is_on_board-else-not-is_on_board.ensures.1 (rw (c.game-game.ensures.value, to) (to_on_board c.args.position.now c.args.m u p)))
    ]
