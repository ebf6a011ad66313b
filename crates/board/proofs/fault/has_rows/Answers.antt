use Rattle.std.proofs.Common.{rules, tests, ◌≡◌, ℕ, ◌<◌, List, All, eqb, length, map, replicate, get_or, sym, ap, subst, ◌∙◌, [], arith}
use Rattle.std.specs.Slice.Iter.{split_callee}
use Rattle.std.proofs.lemmas.List.{get_or-map, get_or-replicate, length-map, same_lists}
use Rattle.std.proofs.lemmas.Iterator.Consumers.{YieldsList-turn, YieldsList-end}
use Rattle.std.proofs.lemmas.Iterator.Splits.{YieldsList-from_slice_split}
use Rattle.board.proofs.Common.{false≢true, iff_false, length-replicate, nat_tests, length_push, take_all, All-more, All-get_or, rows, row_width}
use Rattle.board.proofs.FenLaw.{wide_rows}
use Rattle.board.proofs.fault.has_rows.Goals as goal
use Rattle.board.proofs.fault.has_rows.Goals.{then-count-width-via-then-count-width, then-count-width-via-else-count-width+then-not-is_wide}

-- rows that are all of one width
same_widths : (rs : List (List ℕ)) (n w : ℕ) → length rs ≡ n → All (λ r. row_width r ≡ w) rs → map row_width rs ≡ replicate n w
same_widths rs n w e all = same_lists (map row_width rs) (replicate n w) (length-map rs row_width ∙ e ∙ sym (length-replicate n w))
    (λ k d lt.
    let within : k < length rs = omega (arith, length-map rs row_width) in
    get_or-map row_width rs k [] d within ∙ All-get_or (λ r. row_width r ≡ w) rs k [] within all ∙ sym (get_or-replicate n k w d (omega (arith, e))))

pub returns-then-count-width : goal.returns-then-count-width
returns-then-count-width c =
    let all = rows c.args.board.now in
    let w = c.args.width in
    let next = YieldsList-turn (YieldsList-from_slice_split _ (λ x. eqb x 47) c.args.board.now (cc) (cc) (ap split_callee c.into_iter-row-iterator.ensures.into_iter_gives ∙ c.split-row-items.ensures.closure) (λ x r q k. search (rules, tests))) c.loop-row.yielded _ c.loop-row.yielded_by _ _ c.in-Some.row c.in-Some.is c.next.ensures.steps in (
      λ e. absurd (false≢true e),
      λ e. elim c.then-count-width.branch [
        | then-count-width-via-then-count-width b ↦ absurd (omega (arith, next.0, c.loop-row.invariant.0, b.if-count-width.true, (wide_rows all w w e).0))
        | then-count-width-via-else-count-width+then-not-is_wide b ↦ absurd (iff_false b.is_wide.ensures b.if-not-is_wide.true (ap row_width next.1 ∙ All-get_or (λ r. row_width r ≡ w) all (length c.loop-row.yielded) c.in-Some.row.now next.0 (wide_rows all w w e).1))
      ],
    )

pub loop-row-preserved : goal.loop-row-preserved
loop-row-preserved c =
    let all = rows c.args.board.now in
    let next = YieldsList-turn (YieldsList-from_slice_split _ (λ x. eqb x 47) c.args.board.now (cc) (cc) (ap split_callee c.into_iter-row-iterator.ensures.into_iter_gives ∙ c.split-row-items.ensures.closure) (λ x r q k. search (rules, tests))) c.loop-row.yielded _ c.loop-row.yielded_by _ _ c.in-Some.row c.in-Some.is c.next.ensures.steps in
    let i = c.loop-row.invariant in
    let count = c.loop-row.count in
    let wide = c.is_wide.ensures.0 c.if-not-is_wide.false in
    let here : row_width (get_or all count c.in-Some.row.now) ≡ c.args.width = ap (λ k. row_width (get_or all k c.in-Some.row.now)) i.0 ∙ ap row_width (sym next.1) ∙ wide in (
      omega (arith, i.0, length_push c.loop-row.yielded c.in-Some.row),
      omega (arith, i.1, c.if-count-width.false),
      All-more (λ row. row_width row ≡ c.args.width) all count c.in-Some.row.now (omega (arith, i.0, next.0)) i.2 here,
    )

pub returns : goal.returns
returns c =
    let all = rows c.args.board.now in
    let w = c.args.width in
    let gives = c.into_iter-row-iterator.ensures.into_iter_gives in
    let seen = YieldsList-end (YieldsList-from_slice_split _ (λ x. eqb x 47) c.args.board.now (cc) (cc) (ap split_callee gives ∙ c.split-row-items.ensures.closure) (λ x r q k. search (rules, tests))) c.loop-row.yielded _ c.loop-row.yielded_by _ _ c.in-None.is c.next.ensures.steps in
    let i = c.loop-row.invariant in
    let counted : c.loop-row.count ≡ length all = i.0 ∙ seen.1 in
    let widths = subst (All (λ row. row_width row ≡ w)) (take_all c.loop-row.count all (omega arith)) i.2 in (
      λ e. let same : c.loop-row.count ≡ w = grind (arith, nat_tests) in same_widths all w w (sym counted ∙ same) widths,
      λ e. let same : c.loop-row.count ≡ w = counted ∙ (wide_rows all w w e).0 in grind (arith, nat_tests),
    )
