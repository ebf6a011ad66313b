use Rattle.certificates.proofs.Claimed.{no_claims, yes_claims}
use Rattle.certificates.proofs.consequences.claim_laws.Goals as goal

pub returns-clause-no : goal.returns-clause-no
returns-clause-no c = no_claims

pub returns-clause-yes : goal.returns-clause-yes
returns-clause-yes c = yes_claims
