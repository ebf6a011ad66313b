use Rattle.std.proofs.Common.{refl}
use Rattle.verifying.specs.Certificate.{MakesClaim}
use Rattle.verifying.proofs.Making.{yields_none}
use Rattle.verifying.proofs.yes_claims.claim_anew.Goals as goal

pub returns-in-Some : goal.returns-in-Some
returns-in-Some g c = yields_none (MakesClaim c.args.position.now c.args.left c.args.place c.args.claims.now) c.args.claims.now (λ other makes. makes.0 _ c.in-Some.ensures refl)
