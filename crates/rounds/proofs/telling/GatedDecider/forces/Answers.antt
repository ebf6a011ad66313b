use Rattle.std.proofs.Common.{refl}
use Rattle.rounds.specs.Going.SeatGoesOn.{searched}
use Rattle.rounds.proofs.telling.GatedDecider.forces.Goals as goal

pub returns-clause-goes : goal.returns-clause-goes
returns-clause-goes g c = let continues = c.decide_on.ensures.continues in
    record { table = refl; seat = refl; calls = λ _. searched continues; still = λ _. continues.seat }
