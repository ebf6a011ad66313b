use Rattle.moves.proofs.Common.{◌≡◌, inl, inr, subst, ◌∙◌, arith, Way, bit_at, cases_eq, bit_at_ones, IsOnRay, Has, cell_small, Has-and, Has-zero}
use Rattle.moves.proofs.Shadows.{comes_through, riding}
use Rattle.moves.proofs.pinned.shadow.Goals as goal

pub returns-then-riders-eq0 : goal.returns-then-riders-eq0
returns-then-riders-eq0 c = λ i cell w.
    let b = c.args.board.now in
    let t = comes_through b c.requires.position b.mover c.args.king i c.requires.cell cell w in
    absurd (Has-zero t.rider (subst (λ n. Has n t.rider) c.if-riders-eq0.true (riding b c.args.king i c.args.checkers c.riders.result c.requires.checkers c.riders.ensures t)))

pub returns-then-without-ne0 : goal.returns-then-without-ne0
returns-then-without-ne0 c = λ i cell w. let small = cell_small c.args.board.now.game i cell in bit_at_ones 64 i (omega (arith, small))

pub lines-requires : goal.lines-requires
lines-requires c = ((c.riders.ensures c.lowest-cell.result).0 ((Has-and c.args.checkers c.riders.result c.lowest-cell.result).0 c.lowest-cell.ensures.there).1).0

pub returns : goal.returns
returns c = λ i cell w.
    let b = c.args.board.now in
    let t = comes_through b c.requires.position b.mover c.args.king i c.requires.cell cell w in
    let small = cell_small b.game t.rider t.cell in
    let same : t.rider ≡ c.lowest-cell.result = elim (cases_eq t.rider c.lowest-cell.result) [
      | inl e ↦ e
      | inr other ↦
          let kept : bit_at c.without.result t.rider ≡ 1 = c.without.ensures.others t.rider (omega (arith, small)) other ∙ riding b c.args.king i c.args.checkers c.riders.result c.requires.checkers c.riders.ensures t in
          absurd (Has-zero t.rider (subst (λ n. Has n t.rider) c.if-without-ne0.false kept))
    ] in
    (c.lines.ensures i).1 (subst (λ r. (way : Way) × IsOnRay b.game way r i) same (t.way, t.on))
