use Rattle.std.proofs.Common.{refl}
use Rattle.decision.proofs.Callers.{makes_call}
use Rattle.decision.proofs.caller.Caller.store.Goals as goal

pub returns : goal.returns
returns g c = makes_call refl refl c.store.ensures.seat c.store.ensures.call tt
