use Rattle.std.proofs.Common.{◌≡◌, ◌+◌, ◌*◌, ◌≤◌, min, Some}
use Rattle.rules.proofs.Common.{array_vec_len, Pawn, Man, square_number, unit_at, ListsBelow}
use Rattle.rules.proofs.list.push_between.Given as goal

abbrev pub invariant-loop-promotion : goal.invariant-loop-promotion
invariant-loop-promotion l = record {
  lists : ListsBelow l.position ((square_number l.position.game l.from * 36 + square_number l.position.game l.to) * 5 + l.promotion-index) l.moves.items;
  few : array_vec_len l.moves ≤ array_vec_len l.fn.moves + l.promotion-index;
  one : (u : Man) → unit_at l.position l.from ≡ Some u → (u.kind ≡ Pawn → ⊥) → array_vec_len l.moves ≤ array_vec_len l.fn.moves + min 1 l.promotion-index;
}
