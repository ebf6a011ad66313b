use Rattle.std.proofs.Common.{rules}
use Rattle.crossbeam_utils.specs.Seq.{cell_view}
use Rattle.cell_slots.proofs.Keeps.{probes}
use Rattle.cell_slots.proofs.cell.look.Goals as goal

pub load_as-words-requires : goal.load_as-words-requires
load_as-words-requires g c =
    (search rules, (search rules, (search rules, probes g.L.Lore.key g.L.Lore.meets c.args.token.now.id g.K.Told.by g.K.Told.slot c.args.slot g.K.Told.words (cell_view c.args.token.now) c.requires.asked.0 c.requires.asked.1 g.met.L.Lore.no_zeros c.requires.seated)))
