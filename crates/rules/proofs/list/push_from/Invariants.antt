use Rattle.std.proofs.Common.{◌+◌, ◌*◌, ◌≤◌}
use Rattle.rules.proofs.Common.{array_vec_len, square_number, ListsBelow}
use Rattle.rules.proofs.Room.{share}
use Rattle.rules.proofs.list.push_from.Given as goal

abbrev pub invariant-loop-number : goal.invariant-loop-number
invariant-loop-number l = record {
  lists : ListsBelow l.position ((square_number l.position.game l.from * 36 + l.number) * 5) l.moves.items;
  few : array_vec_len l.moves ≤ array_vec_len l.fn.moves + share l.position.game l.unit l.from l.number;
}
