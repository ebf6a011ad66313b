use Rattle.decision.proofs.Callers.{goes_more}
use Rattle.decision.proofs.storing.keep_far.Goals as goal

pub returns-in-Kept : goal.returns-in-Kept
returns-in-Kept g c = goes_more c.store.ensures.goes_on c.store-in-Kept.ensures.goes_on
