use Rattle.std.proofs.Common.{◌≡◌, length}
use Rattle.cell_slots.proofs.table.cells.Given as goal

abbrev pub invariant-loop-slot : goal.invariant-loop-slot
invariant-loop-slot g l = length l.cells.items ≡ l._slot
