use Rattle.std.proofs.Common.{refl, rules, sym, subst}
use Rattle.rounds.specs.Going.{SeatGoesOn, SeatsGoOn}
use Rattle.rounds.proofs.Going.{seats_none}
use Rattle.decision.proofs.Zips.{take_whole, zip_each}
use Rattle.rounds.proofs.keys.prepare.Goals as goal

pub returns-then-threads-lt2-clause-seats : goal.returns-then-threads-lt2-clause-seats
returns-then-threads-lt2-clause-seats g c = (refl, c.requires.seats)

pub returns-then-threads-lt2-clause-go_on : goal.returns-then-threads-lt2-clause-go_on
returns-then-threads-lt2-clause-go_on g c = seats_none g.T.Gate.keeps c.args.search.now.slots.now c.args.seats.now.items c.requires.seats

pub returns-clause-go_on : goal.returns-clause-go_on
returns-clause-go_on g c =
    subst (SeatsGoOn g.T.Gate.keeps c.args.search.now.slots.now c.args.seats.now.items) (sym (take_whole c.args.seats.now.len c.for_each_mut.new.s _ (search rules)))
    (zip_each (SeatGoesOn g.T.Gate.keeps c.args.search.now.slots.now) c.args.seats.now.items c.for_each_mut.new.s (search rules) (λ i d lt. search rules))
