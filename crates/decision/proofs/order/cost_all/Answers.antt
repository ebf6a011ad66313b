use Rattle.std.proofs.Common.{sym, subst}
use Rattle.rules.specs.Moves.{IsLawful}
use Rattle.decision.proofs.order.cost_all.Goals as goal

pub cost-cost-requires : goal.cost-cost-requires
cost-cost-requires c =
    let lawful : IsLawful c.args.q.now.position c.m-item.result = subst (IsLawful c.args.q.now.position) (sym c.m-item.is) (c.requires.lawful c.loop-m.m-index c.m-item.result c.loop-m-test.true) in
    subst (IsLawful c.args.q.now.position) (sym c.m.view_is) lawful
