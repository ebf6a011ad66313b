use Rattle.answer_laws.proofs.Unique.{one_best}
use Rattle.answer_laws.proofs.best.one_best_tree.Goals as goal

pub returns : goal.returns
returns c = one_best
