use Rattle.std.proofs.Common.{Err}
use Rattle.composing.specs.Drawings.{IsDrawingReply}
use Rattle.endings.proofs.EndingLemmas.{reply_ran}
use Rattle.composing.proofs.running.run_show.Goals as goal

pub returns-in-Err-clause-runs : goal.returns-in-Err-clause-runs
returns-in-Err-clause-runs g c =
    reply_ran (IsDrawingReply c.args.fen.now c.args.drawing) _ (Err c.in-Err.refusal) c.in-Err.ensures c.refuse_and_tell.ensures.refuses
