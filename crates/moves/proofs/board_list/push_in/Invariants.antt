use Rattle.moves.proofs.Common.{array_vec_len, place_in}
use Rattle.moves.proofs.Scanning.{IsScanned}
use Rattle.moves.proofs.board_list.push_in.Given as given

-- the cells so far are read, and their moves listed
abbrev pub invariant-cells : given.invariant-cells
invariant-cells l = IsScanned l.board l.unit (place_in l.cell) l.initial.left l.left l.moves.items (array_vec_len l.fn.moves) (array_vec_len l.moves)

-- each turn takes the lowest cell away
abbrev pub decreases-cells : given.decreases-cells
decreases-cells l = l.left
