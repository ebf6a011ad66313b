use Rattle.replies.specs.Playing.{IsAfterReply}
use Rattle.endings.proofs.EndingLemmas.{reply_ran}
use Rattle.console.proofs.running.run_after.Goals as goal

pub returns-clause-runs : goal.returns-clause-runs
returns-clause-runs g c =
    reply_ran (IsAfterReply c.args.played.now.fen.now c.args.played.now.name.now) _ c.after_reply-reply.result c.after_reply-reply.ensures c.write_played.ensures.runs
