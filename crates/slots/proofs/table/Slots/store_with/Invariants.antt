use Rattle.slots.proofs.Common.{Offered, Kept, Busy, Worn}
use Rattle.slots.proofs.table.Slots.store_with.Given as goal

abbrev pub ghosts-offer : goal.ghosts-offer
ghosts-offer g a = record { slot = a.slot; busy = Offered a.words Busy; done = Offered a.words Worn }

abbrev pub ghosts-keep : goal.ghosts-keep
ghosts-keep g a = record { slot = a.slot; busy = Offered a.words Busy; done = Offered a.words (Kept a.got) }
