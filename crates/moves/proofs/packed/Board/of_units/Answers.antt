use Rattle.moves.proofs.Common.{sym, subst, Shows}
use Rattle.moves.proofs.packed.Board.of_units.Goals as goal

pub invariant_of-result : goal.invariant_of-result
invariant_of-result c = record {
  packed = c.write_units-words.ensures.packed;
  shows = subst (λ b. Shows b c.of_units-sets.result) (sym c.write_units-words.ensures.value) c.of_units-sets.ensures;
}

pub returns : goal.returns
returns c = c.write_units-words.ensures.value
