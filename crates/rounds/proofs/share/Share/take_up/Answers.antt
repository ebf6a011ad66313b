use Rattle.std.proofs.Common.{subst, sym}
use Rattle.rounds.specs.Going.{SeatGoesOn}
use Rattle.rounds.proofs.Going.{goes_none, goes_decided}
use Rattle.rounds.proofs.share.Share.take_up.Goals as goal

pub returns-then-is_above_winner-clause-goes_on : goal.returns-then-is_above_winner-clause-goes_on
returns-then-is_above_winner-clause-goes_on g c = let t = c.args.round.now.search.now.slots.now in
    subst (λ s. SeatGoesOn g.T.Gate.keeps t s c.is_above_winner.new.self.seat) c.is_above_winner.ensures.seat
    (goes_none g.T.Gate.keeps t c.is_above_winner.new.self.seat c.is_above_winner.ensures.share.seat)

pub returns-in_default-clause-goes_on : goal.returns-in_default-clause-goes_on
returns-in_default-clause-goes_on g c = let t = c.args.round.now.search.now.slots.now in
    subst (λ s. SeatGoesOn g.T.Gate.keeps t s c.decide.new.self.seat) c.is_above_winner.ensures.seat
    (goes_decided g.T.Gate.keeps t c.is_above_winner.new.self.seat c.begin.new.seat c.decide.new.self.seat c.is_above_winner.ensures.share.seat c.begin.ensures.keeps c.decide.ensures.continues)

pub returns-clause-goes_on : goal.returns-clause-goes_on
returns-clause-goes_on g c = let t = c.args.round.now.search.now.slots.now in
    subst (SeatGoesOn g.T.Gate.keeps t c.args.self.now.seat) (sym c.note.ensures.seat)
    (subst (λ s. SeatGoesOn g.T.Gate.keeps t s c.decide.new.self.seat) c.is_above_winner.ensures.seat
    (goes_decided g.T.Gate.keeps t c.is_above_winner.new.self.seat c.begin.new.seat c.decide.new.self.seat c.is_above_winner.ensures.share.seat c.begin.ensures.keeps c.decide.ensures.continues))
