use Rattle.std.proofs.Common.{map, take}
use Rattle.cell_slots.specs.Cell.{Fresh}
use Rattle.cell_slots.proofs.table.CellSlots.seat.Given as goal

abbrev pub invariant-loop-cell : goal.invariant-loop-cell
invariant-loop-cell g l = Fresh (take l.cell-index (map (λ c. c.table.shared.table_id) l.cell-items)) l.tokens.items
