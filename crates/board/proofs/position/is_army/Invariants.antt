use Rattle.std.proofs.Common.{◌≡◌, ◌≤◌, take}
use Rattle.board.proofs.Common.{count_by, is_king_of, is_of_side}
use Rattle.board.proofs.position.is_army.Given as goal

abbrev pub invariant-loop-place : goal.invariant-loop-place
invariant-loop-place l =
    (l.kings ≡ count_by (is_king_of l.side) (take l.place-index l.units)) × (l.kings ≤ l.place-index)
    × (l.count ≡ count_by (is_of_side l.side) (take l.place-index l.units)) × (l.count ≤ l.place-index)
