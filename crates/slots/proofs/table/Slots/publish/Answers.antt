use Rattle.std.proofs.Common.{arith, sym, ap, ◌∙◌}
use Rattle.atomic_table.specs.Seated.{TableId}
use Rattle.slots.proofs.ClaimSteps.{publishes}
use Rattle.slots.proofs.table.Slots.publish.Goals as goal

pub store-requires : goal.store-requires
store-requires g c = let size = c.self.invariant in let same = c.self.view_is in let words = ap (λ (z : TableId). z.words) same in let taken = c.requires.seat.0 in let half = c.requires.half in (
  taken.0 ∙ sym same,
  omega arith,
  publishes _ _ _ _ _ _ _ _ half.0 _ _ _ (omega arith) (omega arith) taken.2 half.1 half.3 half.2 half.5 (omega arith) c.requires.told half.4,
)
