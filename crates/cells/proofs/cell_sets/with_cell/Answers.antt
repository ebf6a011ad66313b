use Rattle.std.proofs.Common.{inl, inr}
use Rattle.cells.proofs.Reached.{Has-with}
use Rattle.cells.proofs.cell_sets.with_cell.Goals as goal

pub returns-then-is_added : goal.returns-then-is_added
returns-then-is_added c = λ i.
    let w = Has-with c.args.set c.args.cell i c.requires in (
      λ h. elim (w.0 h) [ inl x ↦ inl x | inr y ↦ inr (c.if-is_added.true, y) ],
      λ h. w.1 (elim h [ inl x ↦ inl x | inr y ↦ inr y.1 ]),
    )
