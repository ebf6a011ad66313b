use Rattle.std.proofs.Common.{rules, ap}
use Rattle.cell_slots.specs.declared.views.View.{View}
use Rattle.cell_slots.proofs.Keeps.{admits}
use Rattle.cell_slots.proofs.Rows.{fresh_more}
use Rattle.cell_slots.proofs.table.CellSlots.seat.Goals as goal

pub pass-requires : goal.pass-requires
pass-requires g c = (search rules, (search rules, admits g.L.Lore.key g.L.Lore.meets))

pub loop-cell-preserved : goal.loop-cell-preserved
loop-cell-preserved g c =
    let came = c.pass.ensures in
    fresh_more _ c.deref-cell-items.result.now c.loop-cell.cell-index c.cell-item.result c.loop-cell.tokens.items c.push.new.self.items c.pass.result (search rules) c.cell-item.is
    c.in_ok-push.ensures.items c.loop-cell.invariant came.0 (ap (λ (v : View). v.seated) came.1) (ap (λ (v : View). v.seen) came.1, ap (λ (v : View). v.mine) came.1)
