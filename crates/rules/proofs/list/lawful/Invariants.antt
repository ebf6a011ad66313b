use Rattle.std.proofs.Common.{◌*◌, ◌≤◌, take}
use Rattle.rules.proofs.Common.{count_by, array_vec_len, is_of_side, ListsBelow}
use Rattle.rules.proofs.list.lawful.Given as goal

abbrev pub invariant-loop-number : goal.invariant-loop-number
invariant-loop-number l = record {
  lists : ListsBelow l.position (l.number * 36 * 5) l.moves.items;
  few : array_vec_len l.moves ≤ 36 * count_by (is_of_side l.position.mover) (take l.number l.position.units);
}
