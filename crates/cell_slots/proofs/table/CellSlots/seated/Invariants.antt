use Rattle.std.proofs.Common.{◌≡◌, length, map, All}
use Rattle.cell_slots.specs.Table.{IsNewSeat}
use Rattle.cell_slots.proofs.table.CellSlots.seated.Given as goal

abbrev pub invariant-loop-caller : goal.invariant-loop-caller
invariant-loop-caller g l = record {
  count : length l.seats.items ≡ l._caller;
  new : All (IsNewSeat (record { table = map (λ c. c.table.shared.table_id) l.table-inside.cells.items; len = length l.table-inside.cells.items })) l.seats.items;
}
