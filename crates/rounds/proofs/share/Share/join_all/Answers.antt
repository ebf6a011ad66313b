use Rattle.decision.proofs.Calls.{continues_none, continues_more}
use Rattle.rounds.proofs.share.Share.join_all.Goals as goal

pub loop-init : goal.loop-init
loop-init g c = record {
  share = c.requires;
  continues = continues_none c.args.round.now.search.now.slots.now c.args.self.now.seat c.requires.seat;
}

pub loop-preserved : goal.loop-preserved
loop-preserved g c = record {
  share = c.join_begun.ensures.share;
  continues = continues_more c.args.round.now.search.now.slots.now c.args.self.now.seat c.loop.self.seat c.join_begun.new.self.seat c.loop.invariant.continues c.join_begun.ensures.continues;
}

pub returns-then-not-join_begun-clause-continues : goal.returns-then-not-join_begun-clause-continues
returns-then-not-join_begun-clause-continues g c =
    continues_more c.args.round.now.search.now.slots.now c.args.self.now.seat c.loop.self.seat c.join_begun.new.self.seat c.loop.invariant.continues c.join_begun.ensures.continues
