use Rattle.std.proofs.Common.{All, sym, subst}
use Rattle.rules.specs.Moves.{IsLawful}
use Rattle.problems.proofs.Tried.{all_listed}
use Rattle.certifying.proofs.choosing.Chooser.choose.Goals as goal

pub first_of-requires-clause-lawful : goal.first_of-requires-clause-lawful
first_of-requires-clause-lawful c = subst (All (IsLawful c.args.q.now.position)) (sym c.as_slice.ensures.value) (all_listed c.args.q.now.position c.in_order.new.moves.items c.in_order.ensures)
