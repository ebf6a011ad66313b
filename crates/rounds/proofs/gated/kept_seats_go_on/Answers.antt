use Rattle.rounds.proofs.Going.{seats_kept}
use Rattle.rounds.proofs.gated.kept_seats_go_on.Goals as goal

pub returns : goal.returns
returns g c = λ table. seats_kept g.T.Gate.keeps table
