use Rattle.std.proofs.Common.{refl, sym, ap, arith}
use Rattle.atomic_table.specs.Seated.{TableId}
use Rattle.slots.proofs.Histories.{part-own, part-other}
use Rattle.slots.proofs.Order.{in_one_order, given_up}
use Rattle.slots.proofs.table.Slots.close.Goals as goal

pub returns-clause-rule : goal.returns-clause-rule
returns-clause-rule g c = let inv = c.self.invariant in let words = ap (λ (z : TableId). z.words) c.self.view_is in let size = inv.0 in let key = inv.1 in
    given_up _ _ _ c.args.self _ _ c.args.seat c.args.slot _ _ _ _ (omega arith) (omega arith) c.requires.seat.0.0 c.close_with-closed.ensures.values.2 c.word-gate.ensures c.word-first.ensures c.word-second.ensures c.word-third.ensures

pub returns-clause-order : goal.returns-clause-order
returns-clause-order g c = in_one_order _ _ _

pub returns-clause-law : goal.returns-clause-law
returns-clause-law g c = λ h x. (part-own x.slot h x refl, λ k ne. part-other k h x (λ is. ne (sym is)))
