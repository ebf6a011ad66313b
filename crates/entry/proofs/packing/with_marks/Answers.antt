use Rattle.std.proofs.Common.{rules, ◌≡◌, ◌+◌, ◌*◌, ◌%◌, ◌^◌, [], ◌∷◌, get_or, arith, subst}
use Rattle.entry.proofs.Common.{unpacked, Bounds, side_bit, goal_bit, entry_of, Packing}
use Rattle.entry.proofs.BoardWords.{first_small, second_small, third_small, board_packing}
use Rattle.entry.proofs.packing.with_marks.Goals as goal

pub overflow_add-result : goal.overflow_add-result
overflow_add-result c = omega (arith, first_small c.args.words c.requires (search rules), c.side_bit.ensures.below, c.goal_bit.ensures.below)

pub overflow_add-result-2 : goal.overflow_add-result-2
overflow_add-result-2 c = omega (arith, second_small c.args.words c.requires (search rules), c.interval.invariant.below)

pub overflow_add-result-3 : goal.overflow_add-result-3
overflow_add-result-3 c = omega (arith, third_small c.args.words c.requires (search rules), c.upto_byte-upto.ensures.below)

pub returns : goal.returns
returns c =
    let words = c.args.words in
    let marks = 2 * c.side_bit.result + 8 * c.goal_bit.result + 32768 in
    let is : marks ≡ 2 * side_bit c.args.attacker + 8 * goal_bit c.args.goal + 32768 = omega (arith, c.side_bit.ensures.value, c.goal_bit.ensures.value) in
    subst (λ (i : Bounds). Packing (entry_of (unpacked words) c.args.attacker c.args.goal i) ((get_or words 0 0 + marks * 2 ^ 48 % 2 ^ 64) ∷ (get_or words 1 0 + c.interval.inside.below * 2 ^ 48 % 2 ^ 64) ∷ (get_or words 2 0 + c.upto_byte-upto.result * 2 ^ 48 % 2 ^ 64) ∷ []))
    c.interval.view_is
    (board_packing words c.requires c.args.attacker c.args.goal _ marks c.upto_byte-upto.result c.interval.invariant (search rules) (search rules) (search rules) is c.upto_byte-upto.ensures.value c.upto_byte-upto.ensures.below)
