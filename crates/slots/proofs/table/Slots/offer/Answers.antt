use Rattle.std.proofs.Common.{arith, sym, ap, subst, ◌∙◌}
use Rattle.slots.proofs.Common.{TableId, IsBusy, IsWorn}
use Rattle.slots.proofs.GateSteps.{offers}
use Rattle.slots.proofs.table.Slots.offer.Goals as goal

pub load-requires : goal.load-requires
load-requires g c = let size = c.self.invariant in let same = c.self.view_is in let words = ap (λ (z : TableId). z.words) same in let taken = c.requires.seat.0.0 in (
  taken.0 ∙ sym same,
  omega arith,
  offers _ _ _ _ _ _ _ _ _ _ c.requires.told.0 (omega arith) (omega arith) taken.2 c.requires.seat.0.1 (subst IsBusy (sym c.requires.told.1) tt) (subst IsWorn (sym c.requires.told.2) tt),
)
