use Rattle.std.proofs.Common.{sym, ◌∙◌, arith}
use Rattle.stops.proofs.Keeps.{asks_allowed}
use Rattle.stops.proofs.requests.Requests.ask.Goals as goal

pub store-requires : goal.store-requires
store-requires c = let one = c.self.invariant.0 in (c.requires.seat.0.0 ∙ sym c.self.view_is, omega arith, asks_allowed _ _ _ _ c.requires.seat.1 c.requires.next)
