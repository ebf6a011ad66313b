use Rattle.std.proofs.Common.{arith}
use Rattle.slots.proofs.Along.{along_none, along_next, along_more, done_last, done_within, busy_ends, has_room}
use Rattle.slots.proofs.table.Slots.put.Goals as goal

pub returns-then-found-gate-clause-call : goal.returns-then-found-gate-clause-call
returns-then-found-gate-clause-call g c = let half = c.requires.half in
    done_within _ _ 1 5 _ c.args.seat.now.me.0 c.claim-found.new.seat.me.0 (omega arith)
    (done_last _ _ 0 _ _ c.args.seat.now.me.0 c.args.seat.now.me.0 c.claim-found.new.seat.me.0 (has_room _ _ c.args.seat.now c.requires.seat.0 c.requires.seat.1) (along_none _ _ half.2)
    (busy_ends _ _ _ _ _ c.args.seat.now.me.0 c.claim-found.new.seat.me.0 (c.claim-found.ensures.step.2 c.if-found-gate.true).1))

pub returns-clause-call : goal.returns-clause-call
returns-clause-call g c = let half = c.requires.half in
    let two = along_next _ _ _ _ c.args.seat.now.me.0 c.args.seat.now.me.0 c.claim-found.new.seat.me.0 (along_none _ _ half.2) (c.claim-found.ensures.step.1 half.0 half.1 c.if-found-gate.false) in
    let all = along_more _ _ _ _ _ c.args.seat.now.me.0 c.claim-found.new.seat.me.0 c.scatter.new.seat.me.0 two (c.scatter.ensures.half _ _ two.half) in
    done_last _ _ _ _ _ c.args.seat.now.me.0 c.scatter.new.seat.me.0 c.publish.new.seat.me.0 (has_room _ _ c.args.seat.now c.requires.seat.0 c.requires.seat.1) all c.publish.ensures.step.1
