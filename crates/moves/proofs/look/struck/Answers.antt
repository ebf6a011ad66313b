use Rattle.moves.proofs.Common.{sym, subst, other_side, place_in, IsCell, Has, Has-and, Has-zero}
use Rattle.moves.proofs.Owned.{going-are}
use Rattle.moves.proofs.Attacking.{aims-turned}
use Rattle.moves.proofs.look.struck.Goals as goal

pub returns-then-among-eq0 : goal.returns-then-among-eq0
returns-then-among-eq0 c = λ i. (
  λ h. absurd (Has-zero i h),
  λ (cell, t). absurd (Has-zero i (subst (λ n. Has n i) c.if-among-eq0.true ((going-are c.args.board.now (other_side c.args.side) c.args.kind _ _ _ c.class_of.ensures c.requires.foes c.set.ensures i).1 (cell, t.0)))),
)

pub returns-then-among-open_lines-eq0 : goal.returns-then-among-open_lines-eq0
returns-then-among-open_lines-eq0 c = λ i. (
  λ h. absurd (Has-zero i h),
  λ (cell, t).
      let game = sym c.game.ensures.value in
      let seen = (aims-turned c.args.board.now c.args.side c.args.kind (place_in i) (place_in c.args.cell) cell.on_board c.requires.cell.on_board).0 t.1 in
      absurd (Has-zero i (subst (λ n. Has n i) c.if-among-open_lines-eq0.true ((Has-and _ c.open_lines.result i).1 ((going-are c.args.board.now (other_side c.args.side) c.args.kind _ _ _ c.class_of.ensures c.requires.foes c.set.ensures i).1 (cell, t.0), c.open_lines.ensures c.args.board.now i game (subst (λ g. IsCell g i) game cell) seen)))),
)

pub returns : goal.returns
returns c = λ i.
    let turned = λ (cell : IsCell c.args.board.now.game i). aims-turned c.args.board.now c.args.side c.args.kind (place_in i) (place_in c.args.cell) cell.on_board c.requires.cell.on_board in (
      λ h.
          let (a, s) = (Has-and _ c.seen.result i).0 h in
          let (cell, unit) = (going-are c.args.board.now (other_side c.args.side) c.args.kind _ _ _ c.class_of.ensures c.requires.foes c.set.ensures i).0 a in
          (cell, (unit, (turned cell).1 ((c.seen.ensures i).0 s).1)),
      λ (cell, t). (Has-and _ c.seen.result i).1 ((going-are c.args.board.now (other_side c.args.side) c.args.kind _ _ _ c.class_of.ensures c.requires.foes c.set.ensures i).1 (cell, t.0), (c.seen.ensures i).1 (cell, (turned cell).0 t.1)),
    )
