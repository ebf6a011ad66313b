use Rattle.std.proofs.Common.{◌≡◌, ◌∙◌, List, Some, slice_get, subst, sym}
use Rattle.verifying.proofs.Common.{same_Some, Ply, Claim, IsYesLine, IsSomeYesLine, YieldsOnly}
use Rattle.verifying.proofs.Making.{any_found, yields_by}
use Rattle.verifying.proofs.steps.shows_yes.Goals as goal

pub returns : goal.returns
returns g c =
    let old = c.args.claims.now in
    let new = c.winning_move.new.claims in
    let read = c.claim-claim.result in
    let found = c.in_ok-found.found in
    yields_by (λ (x : Claim). slice_get old c.args.place ≡ Some x) (λ (x : Claim) (other : List Claim). IsSomeYesLine c.args.goal x c.args.words.now old other) read c.is_some.result new
    c.claim-claim.ensures (λ x at. same_Some x read (sym at ∙ c.claim-claim.ensures))
    (subst (λ t. YieldsOnly (λ (other : List Claim). IsSomeYesLine c.args.goal read c.args.words.now old other) t new) (sym c.is_some.ensures)
    (any_found (λ (m : Ply) (other : List Claim). IsYesLine c.args.goal read m c.args.words.now old other) found new c.in_ok-found.ensures))
