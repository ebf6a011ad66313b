use Rattle.std.proofs.Common.{arith}
use Rattle.problems.proofs.Jobs.{job_after}
use Rattle.rounds.proofs.Shares.{later}
use Rattle.rounds.proofs.share.Share.search.Goals as goal

pub returns-clause-share : goal.returns-clause-share
returns-clause-share g c = let stop = c.decide_until.ensures.stop in
    later g.J.Count.jobs c.args.round.now c.args.self.now c.decide_until.new.scout c.decide_until.new.seat c.requires.share
    stop.0 (omega (arith, stop.2)) c.decide_until.ensures.continues.seat

pub returns-clause-right : goal.returns-clause-right
returns-clause-right g c = job_after c.args.round.now.search.now.root c.args.round.now.plies c.args.job c.question_of-q.result c.in_ok-decision.decision.yes
    c.question_of-q.ensures c.in_ok-decision.ensures.decided.answer
