use Rattle.std.proofs.Common.{sym, ◌∙◌, arith}
use Rattle.solver.proofs.PlaceKeeps.{tells_allowed}
use Rattle.solver.proofs.place_word.PlaceWord.tell.Goals as goal

pub store-requires : goal.store-requires
store-requires c = let one = c.self.invariant.0 in (c.requires.seat.0 ∙ sym c.self.view_is, omega arith, tells_allowed _ _ _ _ c.requires.place)
