use Rattle.std.proofs.Common.{◌≡◌, ◌+◌, Bool, true, false, not, Some, None, refl, sym, ◌∙◌}
use Rattle.std.proofs.lemmas.Bool.{false≢true}
use Rattle.board.specs.declared.game.Side.TheVariants.{White}
use Rattle.rules.specs.declared.goal.Goal.TheVariants.{Mate}
use Rattle.entry.specs.Bounds.{bounds_of}
use Rattle.entry.specs.Packing.{entry_of}
use Rattle.acceptance.proofs.tables.words_of.Goals as goal

so : (b : Bool) → not b ≡ false → b ≡ true
so true e = refl
so false e = absurd (false≢true (sym e))

pub meet-requires : goal.meet-requires
meet-requires c =
    let e = entry_of c.args.position.now White Mate (bounds_of 0 None) in
    c.interval_laws.ensures.consistent e (bounds_of 0 (Some (c.args.m + 1))) (bounds_of (c.args.m + 1) None)
    (c.interval_laws.ensures.yes e (c.args.m + 1) (c.requires.within.0 (so c.args.within.yes c.if-not-within.false))) (c.interval_laws.ensures.no e c.args.m (λ f. false≢true (sym c.if-fewer.false ∙ c.requires.fewer.1 f)))
