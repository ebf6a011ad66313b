use Rattle.std.specs.Prelude.{[]}
use Rattle.cell_slots.proofs.cell.put.Given as goal

abbrev pub ghosts-write : goal.ghosts-write
ghosts-write g a = record { by = a.token.now.id; slot = a.slot; words = [] }
