use Rattle.std.proofs.Common.{◌≡◌, [], ◌∷◌, length, sym, ◌∙◌, ap, subst, arith, refl}
use Rattle.wintree.proofs.Common.{false≢true, ends, depth, plan_of, plan_after, Wins, IsFlaw, height}
use Rattle.wintree.proofs.Lists.{opened}
use Rattle.wintree.proofs.Heights.{height_limit, height-plan_of, depth_of_item}
use Rattle.wintree.proofs.Winning.{wins_plan_of, wrong_ends, flaw_plan_of}
use Rattle.wintree.proofs.Agreeing.{reply_at, stands}
use Rattle.wintree.proofs.wins.+checker.Goals as goal

pub height_or_flaw-highest_or_flaw-requires : goal.height_or_flaw-highest_or_flaw-requires
height_or_flaw-highest_or_flaw-requires g t c κs within =
    let node = opened _ _ _ _ _ _ c.tree.view_is c.tree.invariant.some c.deref.ensures c.in-Replies.is c.deref-in-Replies.ensures.value in
    (omega (arith, node.2, c.decreases), (within, omega (arith, node.2, ap depth c.tree.view_is, c.tree.invariant.depth_is, c.tree.invariant.limit)))

pub height_or_flaw-overflow_add-result : goal.height_or_flaw-overflow_add-result
height_or_flaw-overflow_add-result g t c =
    let node = opened _ _ _ _ _ _ c.tree.view_is c.tree.invariant.some c.deref.ensures c.in-Replies.is c.deref-in-Replies.ensures.value in
    let list = c.deref-in-Replies.result.now in
    let high = height-plan_of c.tree.inside.attack list node.0 in
    let depth_is = ap depth (c.tree.view_is ∙ node.1) in
    omega (arith, high, height_limit (plan_of c.tree.inside.attack list), depth_is, c.tree.invariant.depth_is, c.tree.invariant.limit, c.in-Ok.ensures.wins.1)

pub height_or_flaw-behind-requires-in-Err : goal.height_or_flaw-behind-requires-in-Err
height_or_flaw-behind-requires-in-Err g t c =
    let node = opened _ _ _ _ _ _ c.tree.view_is c.tree.invariant.some c.deref.ensures c.in-Replies.is c.deref-in-Replies.ensures.value in
    omega (arith, node.2, ap depth c.tree.view_is, c.tree.invariant.depth_is, c.tree.invariant.limit, c.in-Err.ensures.short)

pub height_or_flaw-returns-else-ends_at-clause-flaw :
    goal.height_or_flaw-returns-else-ends_at-clause-flaw
height_or_flaw-returns-else-ends_at-clause-flaw g t c =
    let m = c.tree.inside.attack in
    let plan_is : c.args.tree.now ≡ ends m c.in-End.end = sym c.tree.view_is ∙ ap (plan_after m) (sym c.deref.ensures ∙ c.in-End.is) in
    let line_is = c.behind-else-ends_at.ensures.line ∙ ap (λ line. m ∷ line) c.at_once-else-ends_at.ensures.line in
    let wrong_is = c.behind-else-ends_at.ensures.wrong ∙ c.at_once-else-ends_at.ensures.wrong in
    let wrong = c.wrong_end.ensures c.apply-after.result (λ ends. false≢true (c.if-ends_at.ensures.1 ends)) in
    rw (line_is, wrong_is) (subst (λ plan. IsFlaw c.args.goal c.args.position.now plan (m ∷ []) c.wrong_end.result) (sym plan_is)
    (refl, wrong_ends c.args.goal c.args.position.now c.apply-after.result m c.apply-after.ensures c.in-End.end c.wrong_end.result wrong))

pub height_or_flaw-returns-in-Ok-clause-wins : goal.height_or_flaw-returns-in-Ok-clause-wins
height_or_flaw-returns-in-Ok-clause-wins g t c =
    let m = c.tree.inside.attack in
    let node = opened _ _ _ _ _ _ c.tree.view_is c.tree.invariant.some c.deref.ensures c.in-Replies.is c.deref-in-Replies.ensures.value in
    let won = wins_plan_of c.args.goal c.args.position.now c.apply-after.result m c.apply-after.ensures c.deref-in-Replies.result.now node.0 c.in-Ok.ensures.lists c.in-Ok.ensures.wins.0 in (
      subst (Wins c.args.goal c.args.position.now) (sym node.1) won,
      omega (arith, height-plan_of m c.deref-in-Replies.result.now node.0, ap height node.1, c.in-Ok.ensures.wins.1),
    )

pub height_or_flaw-returns-in-Err-clause-flaw : goal.height_or_flaw-returns-in-Err-clause-flaw
height_or_flaw-returns-in-Err-clause-flaw g t c =
    let m = c.tree.inside.attack in
    let node = opened _ _ _ _ _ _ c.tree.view_is c.tree.invariant.some c.deref.ensures c.in-Replies.is c.deref-in-Replies.ensures.value in
    let flaw = c.in-Err.flaw in
    let found = flaw_plan_of c.args.goal c.args.position.now c.apply-after.result m c.apply-after.ensures c.deref-in-Replies.result.now flaw.line.items flaw.wrong node.0 c.in-Err.ensures.flaw in
    rw (c.behind-in-Err.ensures.line, c.behind-in-Err.ensures.wrong) (subst (λ plan. IsFlaw c.args.goal c.args.position.now plan (m ∷ flaw.line.items) flaw.wrong) (sym node.1) found)

pub height_or_flaw-returns-in-Err-clause-short : goal.height_or_flaw-returns-in-Err-clause-short
height_or_flaw-returns-in-Err-clause-short g t c =
    let node = opened _ _ _ _ _ _ c.tree.view_is c.tree.invariant.some c.deref.ensures c.in-Replies.is c.deref-in-Replies.ensures.value in
    omega (arith, node.2, ap length c.behind-in-Err.ensures.line, c.in-Err.ensures.short)

pub highest_or_flaw-apply-requires : goal.highest_or_flaw-apply-requires
highest_or_flaw-apply-requires g t c =
    let here = reply_at c.args.replies.now c.loop-reply.reply-index c.loop-reply-item.result c.loop-reply-test.true c.loop-reply-item.is in
    (c.in_default.ensures.exact c.loop-reply-item.result.0).0 (stands _ c.loop-reply.reply-index c.loop-reply-item.result.0 here)

pub highest_or_flaw-height_or_flaw-requires : goal.highest_or_flaw-height_or_flaw-requires
highest_or_flaw-height_or_flaw-requires g t c κs within =
    (omega (arith, depth_of_item c.args.replies.now c.loop-reply.reply-index c.loop-reply-item.result c.loop-reply-test.true c.loop-reply-item.is, c.decreases), within)

pub highest_or_flaw-behind-requires : goal.highest_or_flaw-behind-requires
highest_or_flaw-behind-requires g t c =
    omega (arith, depth_of_item c.args.replies.now c.loop-reply.reply-index c.loop-reply-item.result c.loop-reply-test.true c.loop-reply-item.is, c.in-Err.ensures.short, c.requires)

pub highest_or_flaw-returns-in-Err-clause-flaw : goal.highest_or_flaw-returns-in-Err-clause-flaw
highest_or_flaw-returns-in-Err-clause-flaw g t c =
    let item = c.loop-reply-item in
    rw (c.behind.ensures.line, c.behind.ensures.wrong) (item.result.1, (c.loop-reply.reply-index, c.loop-reply-test.true, sym item.is), c.apply.result, c.apply.ensures, c.in-Err.ensures.flaw)

pub highest_or_flaw-returns-in-Err-clause-short : goal.highest_or_flaw-returns-in-Err-clause-short
highest_or_flaw-returns-in-Err-clause-short g t c =
    omega (arith, depth_of_item c.args.replies.now c.loop-reply.reply-index c.loop-reply-item.result c.loop-reply-test.true c.loop-reply-item.is, ap length c.behind.ensures.line, c.in-Err.ensures.short)
