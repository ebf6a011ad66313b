use Rattle.stops.proofs.Keeps.{are_made}
use Rattle.stops.proofs.laws.requests_are_made.Goals as goal

pub returns : goal.returns
returns c = are_made
