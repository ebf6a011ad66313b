use Rattle.cell_slots.proofs.Rows.{Telling}
use Rattle.cell_slots.proofs.table.tell_all.Given as goal

abbrev pub invariant-loop-i : goal.invariant-loop-i
invariant-loop-i g l = Telling l.i l.initial.tokens.items l.initial.others.items l.tokens.items l.others.items
