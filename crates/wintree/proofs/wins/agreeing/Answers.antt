use Rattle.std.proofs.Common.{sym, ◌∙◌, ap, Some}
use Rattle.wintree.proofs.Agreeing.{reply_at, agree_more}
use Rattle.wintree.proofs.wins.agreeing.Goals as goal

pub loop-i-preserved : goal.loop-i-preserved
loop-i-preserved g c =
    let i = c.loop-i.i in
    let reply = c.index-replies-i in
    let here = reply_at c.args.replies.now i reply.result c.loop-i-test.true reply.is in
    agree_more _ c.args.moves.now i reply.result.0 c.loop-i.invariant here (c.stands_at.ensures.0 c.if-not-stands_at.false ∙ ap (λ r. Some r.0) (sym reply.is))
