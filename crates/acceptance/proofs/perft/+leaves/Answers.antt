use Rattle.std.proofs.Common.{subst, sym, arith}
use Rattle.rules.specs.Moves.{IsLawful}
use Rattle.rules.specs.Order.{ListsLawful}
use Rattle.rules.proofs.Listed.{lawful_at}
use Rattle.acceptance.proofs.perft.+leaves.Goals as goal

pub apply-requires : goal.apply-requires
apply-requires t c =
    let lists : ListsLawful c.args.position.now c.as_slice-m-items.result.now = rw c.as_slice-m-items.ensures.value c.lawful-moves.ensures in
    subst (IsLawful c.args.position.now) (sym c.m-item.is) (lawful_at c.args.position.now _ lists c.loop-m.m-index c.m-item.result (omega arith))
