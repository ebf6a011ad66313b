use Rattle.moves.proofs.Common.{inl, inr, sym, subst, ◌∙◌, IsCell, Has-or, lowest-has, not-zero}
use Rattle.moves.proofs.escapes.flees.Goals as goal

pub open_lines-aims-requires : goal.open_lines-aims-requires
open_lines-aims-requires c = subst (λ g. IsCell g c.args.to) (sym c.game.ensures.value) c.requires

pub returns : goal.returns
returns c = λ some.
    let (i, h) = lowest-has c.except.result c.except.type_inv ((not-zero c.except.result).0 some) in
    let (step, free) = (c.except.ensures i).0 h in (
      i,
      step,
      record {
        other = λ e. free ((Has-or c.single.result c.open_lines-aims.result i).1 (inl ((c.single.ensures i).1 (sym e))));
        unseen = λ q same cell aims. free ((Has-or c.single.result c.open_lines-aims.result i).1 (inr (c.open_lines-aims.ensures q i (same ∙ sym c.game.ensures.value) (subst (λ g. IsCell g i) (sym c.game.ensures.value) cell) aims)));
      },
    )
