use Rattle.std.proofs.Common.{◌≡◌, ℕ, List, [], replicate, ◌*◌, sym, subst, rules}
use Rattle.slots.proofs.Common.{opening, TableHolds, dealer, way_of}
use Rattle.slots.proofs.Dealing.{opens}
use Rattle.slots.proofs.table.Slots.open.Goals as goal

pub of_words-requires : goal.of_words-requires
of_words-requires g c = let same : c.as_slice.result.now ≡ replicate (4 * c.args.slots) 0 = search rules in
    subst (λ (ws : List ℕ). TableHolds (way_of g.L.Lore.key g.L.Lore.prefers) g.L.Lore.meets c.args.slots (opening ws [] (dealer c.args.slots))) (sym same) (opens (way_of g.L.Lore.key g.L.Lore.prefers) g.L.Lore.meets c.args.slots)
