use Rattle.std.proofs.Common.{refl}
use Rattle.rounds.proofs.Shares.{later}
use Rattle.rounds.proofs.share.Share.is_above_winner.Goals as goal

pub returns-clause-share : goal.returns-clause-share
returns-clause-share g c =
    later g.J.Count.jobs c.args.round.now c.args.self.now _ c.args.self.now.seat c.requires.share refl c.is_below.ensures.falls c.requires.share.seat
