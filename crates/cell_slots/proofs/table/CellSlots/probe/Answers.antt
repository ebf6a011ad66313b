use Rattle.std.proofs.Common.{◌<◌, length, sym, ap, ◌∙◌, arith}
use Rattle.slots.specs.declared.calls.Act.TheVariants.{Asked}
use Rattle.cell_slots.specs.Table.{Slotted, Seated}
use Rattle.cell_slots.proofs.Rows.{same_at, same_length, calls_of, tables_of}
use Rattle.cell_slots.proofs.table.CellSlots.probe.Goals as goal

pub probe-requires-clause-cell : goal.probe-requires-clause-cell
probe-requires-clause-cell g c =
    let e = ap (λ (s : Seated). s.table) c.seat.view_is ∙ (c.requires.seat ∙ sym (ap (λ (s : Slotted). s.table) c.self.view_is)) in
    let n = ap (λ (s : Slotted). s.len) c.self.view_is in
    let m = same_length _ _ c.seat.inside.tokens.items c.self.inside.cells.items e in
    let r = c.requires.slot in
    let inside : c.args.slot < length c.seat.inside.tokens.items = omega arith in
    same_at _ _ c.seat.inside.tokens.items c.self.inside.cells.items c.args.slot c.index_mut-token.result.now c.index-cell.result.now e inside c.index_mut-token.ensures.value c.index-cell.ensures

pub returns-clause-seat : goal.returns-clause-seat
returns-clause-seat g c =
    let e = ap (λ (s : Seated). s.table) c.seat.view_is ∙ (c.requires.seat ∙ sym (ap (λ (s : Slotted). s.table) c.self.view_is)) in
    let n = ap (λ (s : Slotted). s.len) c.self.view_is in
    let m = same_length _ _ c.seat.inside.tokens.items c.self.inside.cells.items e in
    let r = c.requires.slot in
    let inside : c.args.slot < length c.seat.inside.tokens.items = omega arith in
    tables_of c.seat.inside.tokens.items c.args.slot c.index_mut-token.result.now c.probe.new.token inside c.index_mut-token.ensures.value c.probe.ensures.token.0 ∙ ap (λ (s : Seated). s.table) c.seat.view_is

pub returns-clause-call : goal.returns-clause-call
returns-clause-call g c =
    let e = ap (λ (s : Seated). s.table) c.seat.view_is ∙ (c.requires.seat ∙ sym (ap (λ (s : Slotted). s.table) c.self.view_is)) in
    let n = ap (λ (s : Slotted). s.len) c.self.view_is in
    let m = same_length _ _ c.seat.inside.tokens.items c.self.inside.cells.items e in
    let r = c.requires.slot in
    let inside : c.args.slot < length c.seat.inside.tokens.items = omega arith in
    let made = calls_of g.L.Lore.key c.seat.inside.tokens.items c.args.slot c.index_mut-token.result.now c.probe.new.token (Asked c.args.key c.probe.result) _ _ inside c.index_mut-token.ensures.value c.probe.ensures.token.1 c.probe.ensures.call.1 in
    rw (sym c.seat.view_is) made
