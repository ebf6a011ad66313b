use Rattle.std.proofs.Common.{arith}
use Rattle.std.proofs.lemmas.Nat.Bits.{bit_at_and, bit_at-lt}
use Rattle.cells.proofs.cell_sets.common.Goals as goal

pub returns : goal.returns
returns c = λ i.
    let e = bit_at_and c.args.set c.args.other i in
    let p = bit_at-lt c.args.set i in
    let q = bit_at-lt c.args.other i in (
      λ h. (omega (arith, e, p, q, h), omega (arith, e, p, q, h)),
      λ w. omega (arith, e, p, q, w.0, w.1),
    )
