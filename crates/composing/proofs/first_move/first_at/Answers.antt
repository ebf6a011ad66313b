use Rattle.std.proofs.Common.{inr, refl}
use Rattle.composing.proofs.FirstMoveLemmas.{named_shown}
use Rattle.composing.proofs.first_move.first_at.Goals as goal

pub returns-in-Some : goal.returns-in-Some
returns-in-Some g c =
    let found = c.in-Some.ensures in
    named_shown c.args.symbols c.args.root c.in-Some.job c.args.limits c.args.name.now c.told_within.result found.0 found.1 c.told_within.ensures

pub returns-in-None : goal.returns-in-None
returns-in-None g c = inr (inr (c.in-None.ensures, refl))
