use Rattle.searcher.proofs.Fewest.{best_plan}
use Rattle.answer_laws.proofs.Unique.{one_best}
use Rattle.answer_laws.proofs.Heights.{best_begins, best_is_read}
use Rattle.answer_laws.proofs.plans.best_plan_laws.Goals as goal

pub returns-clause-one : goal.returns-clause-one
returns-clause-one c = one_best

pub returns-clause-wins : goal.returns-clause-wins
returns-clause-wins c = λ wanted b plan n best. best_plan wanted b plan best n

pub returns-clause-begins : goal.returns-clause-begins
returns-clause-begins c = best_begins

pub returns-clause-read : goal.returns-clause-read
returns-clause-read c = best_is_read
