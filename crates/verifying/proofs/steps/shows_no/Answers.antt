use Rattle.std.proofs.Common.{◌≡◌, ◌∙◌, List, Some, slice_get, subst, sym}
use Rattle.verifying.proofs.Common.{same_Some, IfOk-weaker, Ply, ListsLawful, one_list, Claim, ShowFailures, IsNoLine, YieldsOnly}
use Rattle.verifying.proofs.Failing.{all_lawful}
use Rattle.verifying.proofs.Making.{yields_by}
use Rattle.verifying.proofs.steps.shows_no.Goals as goal

pub all_fail-requires-clause-lawful : goal.all_fail-requires-clause-lawful
all_fail-requires-clause-lawful g c = all_lawful c.claim-claim.result.position c.lawful_on-moves.result.items c.as_slice.result.now c.lawful_on-moves.ensures c.as_slice.ensures.value

pub returns : goal.returns
returns g c =
    let old = c.args.claims.now in
    let read = c.claim-claim.result in
    let moves = c.lawful_on-moves.result.items in
    IfOk-weaker c.all_fail.result _ _
    (λ yes h. yields_by (λ (x : Claim). slice_get old c.args.place ≡ Some x) (λ (x : Claim) (other : List Claim). IsNoLine c.args.goal x c.args.words.now old other) read yes c.all_fail.new.claims
    c.claim-claim.ensures (λ x at. same_Some x read (sym at ∙ c.claim-claim.ensures))
    (yields_by (ListsLawful read.position) (λ (l : List Ply) (other : List Claim). ShowFailures c.args.goal read.position read.plies l c.args.words.now old other) moves yes c.all_fail.new.claims
    c.lawful_on-moves.ensures (λ l also. one_list read.position l moves also c.lawful_on-moves.ensures)
    (subst (λ (l : List Ply). YieldsOnly (ShowFailures c.args.goal read.position read.plies l c.args.words.now old) yes c.all_fail.new.claims) c.as_slice.ensures.value h)))
    c.all_fail.ensures
