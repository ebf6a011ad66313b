use Rattle.std.proofs.Common.{subst, sym, arith}
use Rattle.rules.specs.Moves.{IsLawful}
use Rattle.rules.specs.Order.{ListsLawful}
use Rattle.rules.proofs.Listed.{lawful_at}
use Rattle.acceptance.proofs.perft.+leaves_on.Goals as goal

pub after-requires : goal.after-requires
after-requires t c =
    let lists : ListsLawful c.args.board.now c.as_slice-m-items.result.now = rw c.as_slice-m-items.ensures.value c.lawful_on-moves.ensures in
    subst (IsLawful c.args.board.now) (sym c.m-item.is) (lawful_at c.args.board.now _ lists c.loop-m.m-index c.m-item.result (omega arith))
