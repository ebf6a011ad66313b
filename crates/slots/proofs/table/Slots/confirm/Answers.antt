use Rattle.std.proofs.Common.{sym, ◌∙◌, arith}
use Rattle.slots.proofs.Telling.{confirms, confirmed_seat}
use Rattle.slots.proofs.table.Slots.confirm.Goals as goal

pub load-requires : goal.load-requires
load-requires g c = let same = c.self.view_is in (c.requires.0.0 ∙ sym same, omega arith, confirms _ _ _ _ _ _ _ (omega arith) c.requires.0.2)

pub returns-clause-seat : goal.returns-clause-seat
returns-clause-seat g c = let f = c.load.ensures in (confirmed_seat _ _ c.args.seat.now c.load.new.seat c.requires f.0 f.2, f.1)
