use Rattle.moves.proofs.Common.{subst, Has, Has-and, Has-zero}
use Rattle.moves.proofs.Pinning.{pins-along}
use Rattle.moves.proofs.Riding.{rides-ray}
use Rattle.moves.proofs.Escaping.{over_lines}
use Rattle.moves.proofs.escapes.opened.Goals as goal

pub returns-then-riders-lines-eq0 : goal.returns-then-riders-lines-eq0
returns-then-riders-lines-eq0 c = λ i cell w.
    let b = c.args.board.now in
    let k = c.args.cell in
    let t = pins-along b c.args.side _ _ c.foes_of.ensures c.riders.ensures i k cell c.requires w in
    let there = (c.lines-lines.ensures t.rider).1 (t.way, rides-ray b t.way k t.rider t.to_rider) in
    absurd (Has-zero t.rider (subst (λ n. Has n t.rider) c.if-riders-lines-eq0.true ((Has-and _ _ t.rider).1 (t.has, there))))

pub returns-else-riders-lines-eq0 : goal.returns-else-riders-lines-eq0
returns-else-riders-lines-eq0 c = λ i cell w. (c.lines-lines.ensures i).1 (over_lines c.args.board.now c.args.side c.args.cell i c.requires cell w)
