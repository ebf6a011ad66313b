use Rattle.entry.proofs.Truths.{nothing_true}
use Rattle.round_tests.proofs.kept_entries.store.Goals as goal

pub store-requires-clause-lore : goal.store-requires-clause-lore
store-requires-clause-lore c = record { entry = c.args.entry.now; packing = c.pack.ensures; holds = nothing_true c.args.entry.now c.requires.nothing }
