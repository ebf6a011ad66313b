use Rattle.certificates.proofs.Certified.{certified}
use Rattle.certificates.proofs.consequences.certificate_laws.Goals as goal

pub returns : goal.returns
returns c = certified
