use Rattle.moves.proofs.Common.{◌≡◌, ◌+◌, ◌*◌, ◌≤◌, min, array_vec_len, Pawn, square_number, ListsBelow}
use Rattle.moves.proofs.board_list.push_to.Given as given

abbrev pub invariant-loop-i : given.invariant-loop-i
invariant-loop-i l = record {
  lists : ListsBelow l.board ((square_number l.board.game l.from * 36 + square_number l.board.game l.to) * 5 + l.i) l.moves.items;
  few : array_vec_len l.moves ≤ array_vec_len l.fn.moves + l.i;
  one : (l.fn.unit.kind ≡ Pawn → ⊥) → array_vec_len l.moves ≤ array_vec_len l.fn.moves + min 1 l.i;
}
