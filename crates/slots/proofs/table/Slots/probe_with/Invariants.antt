use Rattle.slots.specs.declared.calls.Act.TheVariants.{Asked}
use Rattle.slots.specs.declared.calls.Probe.TheVariants.{Busy}
use Rattle.slots.proofs.table.Slots.probe_with.Given as goal

abbrev pub ghosts-begin : goal.ghosts-begin
ghosts-begin g a = record { slot = a.slot; busy = Asked a.key Busy; done = Asked a.key Busy }

abbrev pub ghosts-look : goal.ghosts-look
ghosts-look g a = record { slot = a.slot; busy = Asked a.key Busy; done = Asked a.key a.reply }
