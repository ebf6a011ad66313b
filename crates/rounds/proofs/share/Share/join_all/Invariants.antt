use Rattle.decision.specs.Calls.{Continues}
use Rattle.rounds.specs.Shares.{IsShare}
use Rattle.rounds.proofs.share.Share.join_all.Given as goal

abbrev pub invariant-loop : goal.invariant-loop
invariant-loop g l =
    record {
      share : IsShare g.J.Count.jobs l.fn.round l.self;
      continues : Continues l.fn.round.search.now.slots.now l.fn.self.seat l.self.seat;
    }
