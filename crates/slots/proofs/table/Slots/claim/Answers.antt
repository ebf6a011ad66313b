use Rattle.std.proofs.Common.{arith, refl, sym, ap, subst, ◌∙◌}
use Rattle.slots.proofs.Common.{TableId, IsBusy}
use Rattle.slots.proofs.ClaimSteps.{claims}
use Rattle.slots.proofs.table.Slots.claim.Goals as goal

pub compare_exchange-requires : goal.compare_exchange-requires
compare_exchange-requires g c = let size = c.self.invariant in let same = c.self.view_is in let words = ap (λ (z : TableId). z.words) same in let taken = c.requires.seat.0 in let half = c.requires.half in (
  taken.0 ∙ sym same,
  omega arith,
  claims _ _ _ _ _ _ _ _ half.0 _ _ (omega arith) (omega arith) taken.2 half.1 half.2 refl (subst IsBusy (sym c.requires.told) tt),
)
