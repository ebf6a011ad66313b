use Rattle.moves.proofs.Common.{◌≡◌, ◌*◌, ◌≤◌, sym, subst, arith, Some, count_ones, rules, unit_at, Reaches, place_in, mul-le}
use Rattle.moves.proofs.Counts.{counted_all, few_ones}
use Rattle.moves.proofs.counting.count_from.Goals as goal

pub overflow_mul-result : goal.overflow_mul-result
overflow_mul-result c =
    let most : count_ones c.safe_cells-safe.result * c.moves_to_each.result ≤ 256 = mul-le _ _ 64 4 (few_ones c.safe_cells-safe.result c.safe_cells-safe.type_inv) c.moves_to_each.ensures.few in
    omega (arith, most)

pub returns : goal.returns
returns c = λ moves lists.
    let b = c.args.board.now in
    let s = place_in c.args.cell in
    let stands : unit_at b s ≡ Some c.in-Some.unit = search rules in
    let safe = c.safe_cells-safe.ensures in
    counted_all b c.in-Some.unit s c.requires.cell.on_board stands c.safe_cells-safe.result safe c.moves_to_each.result moves
    (λ i h. c.moves_to_each.ensures.each (place_in i) (subst (λ x. Reaches b c.in-Some.unit x (place_in i) (unit_at b (place_in i))) (sym c.square_in.ensures) (safe.cells i h).1)) c.safe_cells-safe.type_inv lists
