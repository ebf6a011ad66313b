use Rattle.std.proofs.Common.{sym, ◌∙◌, arith}
use Rattle.decision.proofs.Replies.{if_decided, if_undecided}
use Rattle.decision.proofs.Callers.{asks_once, asks_alone, asks_second, asks_neither}
use Rattle.decision.proofs.asking.ask.Goals as goal

pub returns-then-is_some : goal.returns-then-is_some
returns-then-is_some g c = asks_once _ _ _ _ c.probe-reply.ensures (if_decided c.args.key c.probe-reply.result c.told.result c.args.n c.decided.result c.probe-reply.ensures.hit c.told.ensures c.decided.ensures (sym c.is_some.ensures ∙ c.if-is_some.true))

pub returns-then-count-slot : goal.returns-then-count-slot
returns-then-count-slot g c =
    let count = c.len-count.ensures.value in let le = c.if-count-slot.true in
    asks_alone _ _ _ _ c.probe-reply.ensures (if_undecided c.probe-reply.result c.told.result c.args.n c.decided.result c.told.ensures c.decided.ensures (sym c.is_some.ensures ∙ c.if-is_some.false)) (omega arith)

pub returns-then-is_some-2 : goal.returns-then-is_some-2
returns-then-is_some-2 g c =
    let count = c.len-count.ensures.value in let le = c.if-count-slot.false in
    asks_second _ _ _ _ _ c.probe-reply.ensures c.probe-second.ensures (if_undecided c.probe-reply.result c.told.result c.args.n c.decided.result c.told.ensures c.decided.ensures (sym c.is_some.ensures ∙ c.if-is_some.false)) (omega arith)
    (if_decided c.args.key c.probe-second.result c.told-2.result c.args.n c.decided-2.result c.probe-second.ensures.hit c.told-2.ensures c.decided-2.ensures (sym c.is_some-2.ensures ∙ c.if-is_some-2.true))

pub returns-else-is_some-2 : goal.returns-else-is_some-2
returns-else-is_some-2 g c =
    let count = c.len-count.ensures.value in let le = c.if-count-slot.false in
    asks_neither _ _ _ _ _ c.probe-reply.ensures c.probe-second.ensures (if_undecided c.probe-reply.result c.told.result c.args.n c.decided.result c.told.ensures c.decided.ensures (sym c.is_some.ensures ∙ c.if-is_some.false)) (omega arith)
    (if_undecided c.probe-second.result c.told-2.result c.args.n c.decided-2.result c.told-2.ensures c.decided-2.ensures (sym c.is_some-2.ensures ∙ c.if-is_some-2.false))
