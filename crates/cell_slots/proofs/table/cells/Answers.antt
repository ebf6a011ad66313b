use Rattle.std.proofs.Common.{rules}
use Rattle.cell_slots.proofs.Keeps.{begins}
use Rattle.cell_slots.proofs.table.cells.Goals as goal

pub ruled-requires : goal.ruled-requires
ruled-requires g c = (search rules, (search rules, begins g.L.Lore.key g.L.Lore.meets))
