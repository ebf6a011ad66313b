use Rattle.decision.proofs.Callers.{goes_more, offers_two}
use Rattle.decision.proofs.storing.offer.Goals as goal

pub returns-then-slot-count-clause-goes_on : goal.returns-then-slot-count-clause-goes_on
returns-then-slot-count-clause-goes_on g c = goes_more c.store.ensures.goes_on c.store-then-slot-count.ensures.goes_on

pub returns-then-slot-count-clause-offered : goal.returns-then-slot-count-clause-offered
returns-then-slot-count-clause-offered g c = offers_two _ _ _ _ c.store.ensures c.store-then-slot-count.ensures
