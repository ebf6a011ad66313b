use Rattle.std.proofs.Common.{refl}
use Rattle.decision.proofs.Callers.{makes_call}
use Rattle.decision.proofs.caller.Caller.probe.Goals as goal

pub returns : goal.returns
returns g c = makes_call refl refl c.probe.ensures.seat c.probe.ensures.call c.probe.ensures.hit
