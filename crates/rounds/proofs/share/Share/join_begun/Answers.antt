use Rattle.std.proofs.Common.{subst}
use Rattle.decision.specs.Calls.{Continues}
use Rattle.decision.proofs.Calls.{continues_none, continues_more}
use Rattle.rounds.proofs.share.Share.join_begun.Goals as goal

pub loop-job-init : goal.loop-job-init
loop-job-init g c = record { share = c.requires.share; continues = continues_none c.args.round.now.search.now.slots.now c.args.self.now.seat c.requires.share.seat }

pub loop-job-preserved : goal.loop-job-preserved
loop-job-preserved g c = let t = c.args.round.now.search.now.slots.now in
    record {
      share = c.join_if_begun.ensures.share;
      continues = continues_more t c.args.self.now.seat c.loop-job.self.seat c.join_if_begun.new.self.seat c.loop-job.invariant.continues
          (subst (λ s. Continues t s c.join_if_begun.new.self.seat) c.is_above_winner.ensures.seat c.join_if_begun.ensures.continues);
    }
