use Rattle.std.proofs.Common.{sym, ◌∙◌, arith}
use Rattle.stops.proofs.Keeps.{deals_allowed}
use Rattle.stops.proofs.requests.Requests.deal.Goals as goal

pub split_seat-requires : goal.split_seat-requires
split_seat-requires c = let one = c.self.invariant.0 in (c.requires.0.0 ∙ sym c.self.view_is, omega arith, deals_allowed _ _)
