use Rattle.slots.proofs.Common.{Offered, Stored, Busy}
use Rattle.slots.proofs.table.Slots.put.Given as goal

abbrev pub ghosts-claim : goal.ghosts-claim
ghosts-claim g a = record { slot = a.slot; busy = Offered a.words Busy; done = Offered a.words Stored }

abbrev pub ghosts-publish : goal.ghosts-publish
ghosts-publish g a = record { slot = a.slot; busy = Offered a.words Busy; done = Offered a.words Stored }
