use Rattle.rounds.proofs.Going.{seats_none}
use Rattle.rounds.proofs.round.round.Goals as goal

pub returns-in-Err-NoMemory-clause-go_on : goal.returns-in-Err-NoMemory-clause-go_on
returns-in-Err-NoMemory-clause-go_on g c = seats_none g.T.Gate.keeps c.args.search.now.slots.now c.args.seats.now.items c.requires.seats.2

pub returns-in_err-states-clause-go_on : goal.returns-in_err-states-clause-go_on
returns-in_err-states-clause-go_on g c = seats_none g.T.Gate.keeps c.args.search.now.slots.now c.args.seats.now.items c.requires.seats.2

pub returns-in_err-underway-clause-go_on : goal.returns-in_err-underway-clause-go_on
returns-in_err-underway-clause-go_on g c = seats_none g.T.Gate.keeps c.args.search.now.slots.now c.args.seats.now.items c.requires.seats.2
