use Rattle.std.proofs.Common.{vec_items}
use Rattle.batches.proofs.BatchLemmas.{asked_gives, asked_refused}
use Rattle.batches.proofs.batch.answered_text.Goals as goal

pub returns-in_err-problem : goal.returns-in_err-problem
returns-in_err-problem g c =
    asked_refused c.args.batch.now c.args.asked.now c.from_residual.result c.in_err-problem.field-0.0 c.in_err-problem.ensures c.from_residual.ensures

pub returns : goal.returns
returns g c =
    asked_gives c.args.batch.now c.args.asked.now c.in_ok-problem.problem c.in_ok-found.found (vec_items c.in_ok-found_text.field-0)
    c.in_ok-problem.ensures c.in_ok-found.ensures c.in_ok-found_text.ensures
