use Rattle.std.proofs.Common.{arith}
use Rattle.std.proofs.lemmas.Grind.{common_steps}
use Rattle.slots.specs.Promise.{IsSeatOf}
use Rattle.searcher.proofs.Lists.{All-snoc, All-popped}
use Rattle.rounds.proofs.Going.{seats_last, seats_more}
use Rattle.rounds.proofs.keys.keys_over.Goals as goal

pub own_keys-keys-requires-clause-seat : goal.own_keys-keys-requires-clause-seat
own_keys-keys-requires-clause-seat g c κs within = (All-popped (IsSeatOf c.args.task.now.slots.now) _ _ _ c.take_last-own.ensures.items c.prepare.ensures.seats.1).1

pub returns-clause-seats : goal.returns-clause-seats
returns-clause-seats g c = (
  grind (arith, common_steps),
  All-snoc (IsSeatOf c.args.task.now.slots.now) _ _ _ c.push_reserved.ensures.items (All-popped (IsSeatOf c.args.task.now.slots.now) _ _ _ c.take_last-own.ensures.items c.prepare.ensures.seats.1).0 c.own_keys-keys.ensures.seat,
)

pub returns-clause-go_on : goal.returns-clause-go_on
returns-clause-go_on g c = let t = c.args.task.now.slots.now in
    seats_more g.T.Gate.keeps t c.args.seats.now.items c.prepare.new.seats.items c.push_reserved.new.self.items c.prepare.ensures.go_on
    (seats_last g.T.Gate.keeps t c.prepare.new.seats.items c.push_reserved.new.self.items c.take_last-own.new.self.items c.take_last-own.result c.own_keys-keys.new.seat
    c.take_last-own.ensures.items c.push_reserved.ensures.items (All-popped (IsSeatOf t) _ _ _ c.take_last-own.ensures.items c.prepare.ensures.seats.1).0 c.own_keys-keys.ensures.goes_on)
