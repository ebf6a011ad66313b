use Rattle.std.proofs.Common.{rules}
use Rattle.rounds.specs.Going.{SeatGoesOn}
use Rattle.rounds.specs.Going.SeatGoesOn.{searched, onward}
use Rattle.rounds.proofs.Going.{goes_none}
use Rattle.rounds.proofs.share.Share.work.Goals as goal

pub loop-preserved : goal.loop-preserved
loop-preserved g c = record {
  share = c.take_up.ensures.share;
  goes_on = onward c.loop.invariant.goes_on c.take_up.ensures.goes_on;
}

pub loop-init : goal.loop-init
loop-init g c = record {
  share = c.requires;
  goes_on = goes_none g.T.Gate.keeps c.args.round.now.search.now.slots.now c.args.self.now.seat c.requires.seat;
}

pub returns-clause-goes_on : goal.returns-clause-goes_on
returns-clause-goes_on g c =
    let taken : SeatGoesOn g.T.Gate.keeps c.args.round.now.search.now.slots.now c.args.self.now.seat c.match-next.self.seat = search rules in
    onward taken (searched c.join_all.ensures.continues)
