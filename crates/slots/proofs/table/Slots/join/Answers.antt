use Rattle.std.proofs.Common.{ap, sym, ◌∙◌, arith}
use Rattle.slots.proofs.Common.{Me, View}
use Rattle.slots.proofs.Dealing.{tells, told_seat}
use Rattle.slots.proofs.table.Slots.join.Goals as goal

pub join_seat-requires : goal.join_seat-requires
join_seat-requires g c = let same = c.self.view_is in let a = c.requires.0.0 in let b = c.requires.1.0 in (a.0 ∙ sym same, b.0 ∙ sym same, b.1, omega arith, tells _ _ _ _ _ _ _ a.2 b.2)

pub returns-clause-seat : goal.returns-clause-seat
returns-clause-seat g c = let e = c.join_seat.ensures in (told_seat _ c.args.seat.now c.args.other c.join_seat.new.seat c.requires.0 c.requires.1 e.0 e.2, e.1)

pub returns-clause-step : goal.returns-clause-step
returns-clause-step g c = ap (λ (z : Me _ View). z.0) c.join_seat.ensures.2
