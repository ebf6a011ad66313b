use Rattle.std.proofs.Common.{arith}
use Rattle.solver.proofs.PlaceKeeps.{looks_allowed}
use Rattle.solver.proofs.place_word.PlaceWord.read.Goals as goal

pub load_new_seat-requires : goal.load_new_seat-requires
load_new_seat-requires c = let one = c.self.invariant.0 in (omega arith, looks_allowed _)
