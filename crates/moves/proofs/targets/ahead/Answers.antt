use Rattle.moves.proofs.Common.{◌+◌, ◌-◌, sym, subst, IsNext, ahead_way, North, South, is-next}
use Rattle.moves.proofs.targets.ahead.Goals as goal

pub returns-in-White : goal.returns-in-White
returns-in-White c = subst (λ s. IsNext (ahead_way s) c.args.cell (c.args.cell + 8)) (sym c.in-White.is) (is-next North c.args.cell c.requires.above)

pub returns-in-Black : goal.returns-in-Black
returns-in-Black c = subst (λ s. IsNext (ahead_way s) c.args.cell (c.args.cell - 8)) (sym c.in-Black.is) (is-next South c.args.cell c.requires.above)
