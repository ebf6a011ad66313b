use Rattle.std.proofs.Common.{◌≤◌, ◌∙◌, IfSome, Option, string_bytes, subst, sym}
use Rattle.solution_text.proofs.Common.{Notation, TellsKey}
use Rattle.solution_text.specs.declared.posed.Posed.{Posed}
use Rattle.solution_text.proofs.Told.{few_held}
use Rattle.solution_text.proofs.beginning.played_key.Goals as goal

pub played_text-requires-clause-set : goal.played_text-requires-clause-set
played_text-requires-clause-set g c =
    let r = c.args.root.now in
    subst (λ (set : Option Posed). IfSome set (λ posed. posed.plies ≤ 63)) (sym c.teller_of_keys-beside.ensures.set) (few_held r.board r.limit c.args.style.extras.set_play r.limited)

pub returns-in-Ok-clause-key : goal.returns-in-Ok-clause-key
returns-in-Ok-clause-key g c =
    let r = c.args.root.now in
    let beside = c.teller_of_keys-beside.ensures in
    let named = beside.notation ∙ c.teller_of-teller.ensures.notation in
    subst (λ (at : Notation × Option Posed). TellsKey at.0 at.1 r.board r.limit c.args.key (string_bytes c.in-Ok.text)) (λ i. (named i, beside.set i)) c.in-Ok.ensures.key
