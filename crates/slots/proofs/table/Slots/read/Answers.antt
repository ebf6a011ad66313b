use Rattle.std.proofs.Common.{arith, sym, ap, ◌∙◌}
use Rattle.atomic_table.specs.Seated.{TableId}
use Rattle.slots.proofs.ReadSteps.{reads}
use Rattle.slots.proofs.Along.{taken_on}
use Rattle.slots.proofs.table.Slots.read.Goals as goal

pub load-requires : goal.load-requires
load-requires g c = let size = c.self.invariant in let same = c.self.view_is in let words = ap (λ (z : TableId). z.words) same in let taken = c.requires.seat.0 in let half = c.requires.half in let inn = c.requires.seat.2 in (
  taken.0 ∙ sym same,
  omega arith,
  reads _ _ _ _ _ _ _ _ half.0 half.1 (omega arith) half.2 half.3 half.4 inn,
)

pub returns-clause-seat : goal.returns-clause-seat
returns-clause-seat g c = let half = c.requires.half in (taken_on _ c.args.seat.now c.load.new.seat _ _ c.requires.seat.0 c.load.ensures.0 c.load.ensures.2.0 (c.load.ensures.2.1 half.0 half.1 half.2), c.load.ensures.1)
