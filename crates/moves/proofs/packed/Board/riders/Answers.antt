use Rattle.moves.proofs.Common.{inl, inr, Has-or, via}
use Rattle.moves.proofs.packed.Board.riders.Goals as goal

pub returns : goal.returns
returns c = λ i. via (Has-or c.set.result c.set-2.result i) (
  λ w. elim w [ inl s ↦ let at = (c.set.ensures i).0 s in (at.0, inl at.1) | inr s ↦ let at = (c.set-2.ensures i).0 s in (at.0, inr at.1) ],
  λ (cell, at). elim at [ inl s ↦ inl ((c.set.ensures i).1 (cell, s)) | inr s ↦ inr ((c.set-2.ensures i).1 (cell, s)) ],
)
