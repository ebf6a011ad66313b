use Rattle.std.proofs.Common.{◌≡◌}
use Rattle.std.proofs.lemmas.Bool.{leb-true, le-leb}
use Rattle.verifying.proofs.Common.{ClaimsSoFew}
use Rattle.verifying.proofs.Making.{one_claim, yields_none}
use Rattle.verifying.proofs.yes_claims.meets.Goals as goal

pub returns-in-Some : goal.returns-in-Some
returns-in-Some g c =
    rw c.in-Claimed.is (one_claim c.args.claims.now c.args.position c.args.left c.in-Some.plies _ (leb-true c.in-Some.plies c.args.left, le-leb c.in-Some.plies c.args.left) c.in-Some.ensures c.requires)

pub returns-in-None : goal.returns-in-None
returns-in-None g c =
    rw c.in-Claimed.is (yields_none (λ other. ClaimsSoFew c.args.claims.now c.args.position c.args.left × (other ≡ c.args.claims.now)) c.args.claims.now (λ other tells. c.in-None.ensures tells.0.0 tells.0.1 tells.0.2))

pub returns-in-Place : goal.returns-in-Place
returns-in-Place g c = rw c.in-Place.is c.claim_anew.ensures
