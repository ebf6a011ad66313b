use Rattle.std.proofs.Common.{arith, sym, ap, subst, ◌∙◌}
use Rattle.slots.proofs.Common.{TableId, IsBusy}
use Rattle.slots.proofs.ReadSteps.{looks_store}
use Rattle.slots.proofs.table.Slots.keep.Goals as goal

pub load-requires : goal.load-requires
load-requires g c = let size = c.self.invariant in let same = c.self.view_is in let words = ap (λ (z : TableId). z.words) same in let taken = c.requires.seat.0 in let half = c.requires.half in (
  taken.0 ∙ sym same,
  omega arith,
  looks_store _ _ _ _ _ _ _ half.0 _ c.args.words _ _ c.requires.seat.2 c.requires.seat.3 (g.met.L.Lore.no_zeros_preferred c.args.words) (omega arith) (omega arith) taken.2 half.1 half.2 half.3 (subst IsBusy (sym c.requires.told.0) tt) c.requires.told.1,
)
