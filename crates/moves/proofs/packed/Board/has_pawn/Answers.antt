use Rattle.moves.proofs.Common.{sym, subst, cell_of, Has, IsCell-cell_of, place_in-cell_of, Has-zero, lowest-has, not-zero, Foot, StandsAs}
use Rattle.moves.proofs.packed.Board.has_pawn.Goals as goal

pub returns : goal.returns
returns c =
    let b = c.args.self.now in (
      λ yes.
          let (i, h) = lowest-has c.set.result c.set.type_inv ((not-zero c.set.result).0 yes) in
          let (cell, at) = (c.set.ensures i).0 h in
          (_, at.unit, cell.on_board, at.stands, at.is),
      λ (s, u, on, stands, pawn).
          let there = subst (StandsAs b Foot) (sym (place_in-cell_of b.game s on)) (record { unit = u; stands = stands; is = pawn }) in
          (not-zero c.set.result).1 (λ none. Has-zero (cell_of s) (subst (λ n. Has n (cell_of s)) none ((c.set.ensures (cell_of s)).1 (IsCell-cell_of b.game s on, there)))),
    )
