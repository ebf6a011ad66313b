use Rattle.std.proofs.Common.{sym, subst}
use Rattle.rules.specs.Moves.{IsLawful}
use Rattle.acceptance.proofs.order_at_first.costs_of.Goals as goal

pub cost-requires : goal.cost-requires
cost-requires c = subst (IsLawful c.args.q.now.position) (sym c.m-item.is) (c.requires c.loop-m.m-index c.m-item.result c.loop-m-test.true)
