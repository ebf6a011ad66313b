use Rattle.cell_slots.proofs.cell.probe.Given as goal

abbrev pub ghosts-look : goal.ghosts-look
ghosts-look g a = record { by = a.token.now.id; slot = a.slot; words = a.key }
