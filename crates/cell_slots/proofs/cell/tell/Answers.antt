use Rattle.std.proofs.Common.{◌≡◌, ◌∙◌, sym, ap, true, rules}
use Rattle.crossbeam_utils.specs.Seq.{cell_view}
use Rattle.cell_slots.specs.declared.views.View.{View}
use Rattle.cell_slots.proofs.Keeps.{forks, tells}
use Rattle.cell_slots.proofs.cell.tell.Goals as goal

pub split_pass-heard-requires : goal.split_pass-heard-requires
split_pass-heard-requires g c = (search rules, (search rules, (c.requires.other, forks g.L.Lore.key g.L.Lore.meets c.args.other.now.id (cell_view c.args.other.now))))

pub join_pass-requires : goal.join_pass-requires
join_pass-requires g c =
    let heard = c.split_pass-heard.ensures.given in
    let also : (cell_view c.split_pass-heard.result).seated ≡ true = ap (λ (v : View). v.seated) heard.1 ∙ c.requires.seated.1 in (
      search rules,
      (
        search rules,
        (
          (c.requires.cell, heard.0 ∙ (c.requires.other ∙ sym c.requires.cell), heard.2),
          tells g.L.Lore.key g.L.Lore.meets c.args.token.now.id (cell_view c.args.token.now) c.split_pass-heard.result.id (cell_view c.split_pass-heard.result) c.requires.seated.0 also,
        ),
      ),
    )
