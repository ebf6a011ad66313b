use Rattle.std.proofs.Common.{rules}
use Rattle.crossbeam_utils.specs.Seq.{cell_view}
use Rattle.cell_slots.proofs.Keeps.{stores}
use Rattle.cell_slots.proofs.cell.write.Goals as goal

pub swap_as-requires : goal.swap_as-requires
swap_as-requires g c =
    (search rules, (search rules, (search rules, stores g.L.Lore.key g.L.Lore.meets c.args.token.now.id g.K.Told.by g.K.Told.slot (cell_view c.args.token.now) c.args.words c.requires.asked.0 c.requires.lore c.requires.seated)))
