use Rattle.std.proofs.Common.{ℕ, ◌+◌, ◌*◌, List, [], ◌∷◌, length, sym, ap, ◌∙◌, subst, arith}
use Rattle.slots.proofs.Common.{length-replicate, length-append, Seat, Note, View, blank, TableId, AllNew, slots_of}
use Rattle.slots.proofs.Dealing.{deals, all_new_push, all_new_none, all_seated, new_seat}
use Rattle.slots.proofs.table.Slots.deal.Goals as goal

pub loop-init : goal.loop-init
loop-init g c = let size = c.self.invariant in let same = c.self.view_is in let words = ap (λ (z : TableId). z.words) same in record {
  same = c.requires.0;
  deals = ap (λ (v : View). v.deals) c.requires.1;
  room = ap (λ (v : View). 4 * length v.notes) c.requires.1 ∙ (let l = length-replicate (slots_of c.args.self.now) blank in omega arith);
  many = ap (λ (l : List (Seat ℕ View)). length l) c.in_ok-seats.ensures.items;
  new = subst (AllNew c.args.self.now) (sym c.in_ok-seats.ensures.items) (all_new_none c.args.self.now);
  len = c.in_ok-seats.ensures.len;
}

pub split_seat-requires : goal.split_seat-requires
split_seat-requires g c = let size = c.self.invariant in let same = c.self.view_is in let words = ap (λ (z : TableId). z.words) same in let inv = c.loop.invariant in (inv.same ∙ sym same, omega arith, deals _ _ _ _ _ (omega arith))

pub loop-preserved : goal.loop-preserved
loop-preserved g c = let inv = c.loop.invariant in let e = c.split_seat.ensures in record {
  same = e.0 ∙ inv.same;
  deals = (λ i. (e.2 i).0.deals) ∙ ap (λ (z : ℕ). z + 1) inv.deals;
  room = ap (λ (z : List Note). 4 * length z) (λ i. (e.2 i).0.notes) ∙ inv.room;
  many = ap (λ (l : List (Seat ℕ View)). length l) c.in_ok-push.ensures.items ∙ (length-append c.loop.seats.items (c.split_seat.result ∷ []) ∙ ap (λ (z : ℕ). z + 1) inv.many);
  new = subst (AllNew c.args.self.now) (sym c.in_ok-push.ensures.items) (all_new_push c.args.self.now c.loop.seats.items c.split_seat.result inv.new
      (new_seat c.args.self.now _ c.loop.first.me.0 c.split_seat.result (e.3 ∙ inv.same) e.4 (inv.deals ∙ ap (λ (z : ℕ). z + 1) (sym inv.many)) inv.room));
  len = (let a = c.in_ok-push.ensures.len in let b = inv.len in omega arith);
}

pub returns : goal.returns
returns g c = let inv = c.loop.invariant in (omega arith, inv.new, all_seated _ _ inv.new)
