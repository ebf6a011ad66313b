use Rattle.std.proofs.Common.{◌≢◌, Some, slice_get, sym, refl, ◌∙◌, ap, arith}
use Rattle.wintree.proofs.Common.{length-map, false≢true, same_Some, moves_in, slice_get-get_or}
use Rattle.wintree.proofs.Agreeing.{reply_at, stands}
use Rattle.wintree.proofs.wins.is_among.Goals as goal
use borrow.Author.Count.{below_more}

pub returns-then-is_same : goal.returns-then-is_same
returns-then-is_same g c =
    let here = reply_at c.args.replies.now c.loop-reply.reply-index c.loop-reply-item.result c.loop-reply-test.true c.loop-reply-item.is in
    (λ _. stands _ c.loop-reply.reply-index c.args.m (here ∙ ap Some (c.is_same.ensures.0 c.if-is_same.true)), λ _. refl)

pub loop-reply-preserved : goal.loop-reply-preserved
loop-reply-preserved g c =
    let here = reply_at c.args.replies.now c.loop-reply.reply-index c.loop-reply-item.result c.loop-reply-test.true c.loop-reply-item.is in
    below_more (λ k. slice_get (moves_in c.args.replies.now) k ≢ Some c.args.m) c.loop-reply.reply-index c.loop-reply.invariant
    (λ there. false≢true (c.if-is_same.ensures.1 (same_Some _ _ (sym here ∙ there))))

pub returns : goal.returns
returns g c = (
  λ no. absurd (false≢true no),
  λ among. absurd (c.loop-reply.invariant among.0 (omega (arith, among.1, length-map c.args.replies.now (λ reply. reply.0), c.loop-reply-test.false)) (slice_get-get_or (moves_in c.args.replies.now) among.0 c.args.m among.1 ∙ ap Some among.2)),
)
