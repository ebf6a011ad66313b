use Rattle.entry.proofs.Truths.{nothing_true}
use Rattle.text_tests.proofs.entries_kept.store.Goals as goal

pub store-requires-clause-lore : goal.store-requires-clause-lore
store-requires-clause-lore c = record { entry = c.args.entry.now; packing = c.pack.ensures; holds = nothing_true c.args.entry.now c.requires.nothing }
