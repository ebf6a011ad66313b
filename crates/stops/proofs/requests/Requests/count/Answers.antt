use Rattle.std.proofs.Common.{sym, ◌∙◌, arith}
use Rattle.stops.proofs.Keeps.{hears_allowed}
use Rattle.stops.proofs.requests.Requests.count.Goals as goal

pub load-requires : goal.load-requires
load-requires c = let one = c.self.invariant.0 in (c.requires.0 ∙ sym c.self.view_is, omega arith, hears_allowed _ _ _)
