use Rattle.std.proofs.Common.{subst, sym}
use Rattle.rules.specs.Order.{ListsLawful}
use Rattle.replies.proofs.FirstLemmas.{unmet}
use Rattle.replies.proofs.first.refutation.Goals as goal

pub after-requires : goal.after-requires
after-requires g c =
    ((subst (ListsLawful c.args.board.now) (sym c.as_slice-reply-items.ensures.value) c.lawful_on-replies.ensures).exact c.reply-item.result).0
    (c.loop-reply.reply-index, c.loop-reply-test.true, sym c.reply-item.is)

pub returns-in-Ok-NoneWithin : goal.returns-in-Ok-NoneWithin
returns-in-Ok-NoneWithin g c =
    unmet c.args.goal c.args.board.now c.reply-item.result c.after.result c.position-position.result c.args.limit c.in_ok-problem.problem
    c.in-Ok-NoneWithin.field-0 c.in-Ok-NoneWithin.field-0-0 c.after.ensures c.position-position.ensures c.in_ok-problem.ensures
    c.in-Ok-NoneWithin.field-0-is c.in-Ok-NoneWithin.ensures
