use Rattle.std.proofs.Common.{◌≡◌, ◌++◌, take, drop, replicate}
use Rattle.board.proofs.fen.insert_places.Given as goal

abbrev pub invariant-loop : goal.invariant-loop
invariant-loop l = l.units.items ≡ take l.at l.fn.units.items ++ (replicate l.counter l.place ++ drop l.at l.fn.units.items)
