use Rattle.std.proofs.Common.{subst, sym}
use Rattle.decision.specs.Calls.{Continues}
use Rattle.decision.proofs.Calls.{continues_more}
use Rattle.rounds.proofs.share.Share.decide.Goals as goal

pub returns-clause-continues : goal.returns-clause-continues
returns-clause-continues g c = let t = c.args.round.now.search.now.slots.now in
    continues_more t c.args.self.now.seat c.search.new.self.seat c.search-2.new.self.seat c.search.ensures.continues
    (subst (λ s. Continues t s c.search-2.new.self.seat) c.is_above_winner.ensures.seat c.search-2.ensures.continues)

pub returns-then-is_above_winner-clause-continues : goal.returns-then-is_above_winner-clause-continues
returns-then-is_above_winner-clause-continues g c = let t = c.args.round.now.search.now.slots.now in
    subst (λ s. Continues t c.args.self.now.seat s) (sym c.is_above_winner.ensures.seat) c.search.ensures.continues
