use Rattle.std.proofs.Common.{sym, subst}
use Rattle.rules.specs.Moves.{IsLawful}
use Rattle.decision.proofs.order.cost_alike.Goals as goal

pub cost-cost-requires : goal.cost-cost-requires
cost-cost-requires c = subst (IsLawful c.args.q.now.position) (sym c.index-moves-last_alike.is) (c.requires.lawful c.last_alike.result c.index-moves-last_alike.result c.last_alike.ensures)
