use Rattle.std.proofs.Common.{arith, rules}
use Rattle.slots.proofs.Telling.{has_cause}
use Rattle.slots.proofs.Along.{along_first, along_more, done_first, done_last, called, busy_ends, has_room}
use Rattle.slots.proofs.table.Slots.probe_with.Goals as goal

pub returns-then-gate-eq1-clause-call : goal.returns-then-gate-eq1-clause-call
returns-then-gate-eq1-clause-call g c = let odd = c.if-gate-eq1.true in called _ _ _ _ c.args.seat.now c.begin-gate.new.seat (done_first _ _ _ c.args.seat.now.me.0 c.begin-gate.new.seat.me.0 (has_room _ _ c.args.seat.now c.requires.seat.0 c.requires.slot) (busy_ends _ _ _ _ _ c.args.seat.now.me.0 c.begin-gate.new.seat.me.0 (c.begin-gate.ensures.step.3 (omega arith))))

pub returns-then-last-gate-clause-call : goal.returns-then-last-gate-clause-call
returns-then-last-gate-clause-call g c = let odd = c.if-gate-eq1.false in
    let one = along_first _ _ c.args.seat.now.me.0 c.begin-gate.new.seat.me.0 (c.begin-gate.ensures.step.2 (omega arith)) in
    let all = along_more _ _ _ _ _ c.args.seat.now.me.0 c.begin-gate.new.seat.me.0 c.gather-got.new.seat.me.0 one (c.gather-got.ensures.half _ one.half) in
    called _ _ _ _ c.args.seat.now c.look-last.new.seat (done_last _ _ _ _ _ c.args.seat.now.me.0 c.gather-got.new.seat.me.0 c.look-last.new.seat.me.0 (has_room _ _ c.args.seat.now c.requires.seat.0 c.requires.slot) all ((c.look-last.ensures.step.1 _ _ all.half).0 c.if-last-gate.true).0)

pub returns-else-last-gate-clause-call : goal.returns-else-last-gate-clause-call
returns-else-last-gate-clause-call g c = let odd = c.if-gate-eq1.false in
    let one = along_first _ _ c.args.seat.now.me.0 c.begin-gate.new.seat.me.0 (c.begin-gate.ensures.step.2 (omega arith)) in
    let all = along_more _ _ _ _ _ c.args.seat.now.me.0 c.begin-gate.new.seat.me.0 c.gather-got.new.seat.me.0 one (c.gather-got.ensures.half _ one.half) in
    called _ _ _ _ c.args.seat.now c.look-last.new.seat (done_last _ _ _ _ _ c.args.seat.now.me.0 c.gather-got.new.seat.me.0 c.look-last.new.seat.me.0 (has_room _ _ c.args.seat.now c.requires.seat.0 c.requires.slot) all (busy_ends _ _ _ _ _ c.gather-got.new.seat.me.0 c.look-last.new.seat.me.0 ((c.look-last.ensures.step.1 _ _ all.half).1 c.if-last-gate.false).1))

pub returns-then-gate-eq1-clause-busy : goal.returns-then-gate-eq1-clause-busy
returns-then-gate-eq1-clause-busy g c = λ _. has_cause _ _ c.args.self.now c.args.slot c.args.seat.now c.begin-gate.new.seat c.requires.slot (search rules)

pub returns-else-last-gate-clause-busy : goal.returns-else-last-gate-clause-busy
returns-else-last-gate-clause-busy g c = λ _. has_cause _ _ c.args.self.now c.args.slot c.args.seat.now c.look-last.new.seat c.requires.slot (search rules)
