use Rattle.calls.specs.Calls.{goal_of}
use Rattle.minimate_c.specs.Asked.{stopped}
use Rattle.minimate_c.proofs.AskedLemmas.{answered, unanswered}
use Rattle.minimate_c.proofs.asking.replied.Goals as goal

pub returns-in-Err-clause-reply : goal.returns-in-Err-clause-reply
returns-in-Err-clause-reply c =
    unanswered c.args.asked.now.fen.now (goal_of c.args.asked.now.stale) c.args.asked.now.limit _ c.args.found.now c.in-Err.why c.in-Err.ensures.why

pub returns-in-Some-clause-reply : goal.returns-in-Some-clause-reply
returns-in-Some-clause-reply c =
    answered c.args.asked.now.fen.now (goal_of c.args.asked.now.stale) c.args.asked.now.limit _ c.in-Ok.problem c.in-Some.answer c.args.found.now _ _
    c.in-Ok.ensures.asked c.in-Some.ensures.answer c.told.ensures

pub returns-in-None-clause-reply : goal.returns-in-None-clause-reply
returns-in-None-clause-reply c = stopped c.in-None.ensures.answer
