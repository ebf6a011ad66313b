use Rattle.std.proofs.Common.{arith, sym, ap, subst, ◌∙◌}
use Rattle.slots.proofs.Common.{TableId, IsBusy, IsProbeReply}
use Rattle.slots.proofs.ReadSteps.{looks_probe}
use Rattle.slots.proofs.table.Slots.look.Goals as goal

pub load-requires : goal.load-requires
load-requires g c = let size = c.self.invariant in let same = c.self.view_is in let words = ap (λ (z : TableId). z.words) same in let taken = c.requires.seat.0 in let half = c.requires.half in (
  taken.0 ∙ sym same,
  omega arith,
  looks_probe _ _ _ _ _ _ _ half.0 half.1 _ _ g.met.L.Lore.no_zeros (omega arith) (omega arith) taken.2 half.2 half.3 half.4 (subst IsBusy (sym c.requires.told.0) tt) (subst (IsProbeReply g.L.Lore.key half.1) (sym c.requires.told.1) half.5),
)
