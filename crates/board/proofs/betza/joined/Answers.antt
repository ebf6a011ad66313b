use Rattle.std.proofs.Common.{◌≡◌, ◌≢◌, ℕ, ◌+◌, ◌<◌, List, [], ◌∷◌, ◌++◌, Any, length, length-append, length-take, get_or, take, drop, take-append-drop, sym, ap, ◌∙◌, arith, append_assoc}
use Rattle.board.proofs.Common.{take_all, take_more, get_or_default, get_or_append_left, get_or-append-add, all_pairs_push, Term, AreDistinct}
use Rattle.board.proofs.WordByWord.{front_distinct}
use Rattle.board.proofs.betza.joined.Goals as goal

-- terms whose beginning has the next one's atom already
not_distinct : (old word : List Term) (n : ℕ) (d : Term) → n < length word → Any (λ t. t.atom ≡ (get_or word n d).atom) (old ++ take n word) → AreDistinct (old ++ word) → ⊥
not_distinct old word n d within (k, t, p, e, h) distinct =
    let sizes : length (old ++ take n word) ≡ length old + n = omega (arith, length-append old (take n word), length-take n word, within) in
    let whole : old ++ word ≡ (old ++ take n word) ++ drop n word = ap (λ x. old ++ x) (sym (take-append-drop n word)) ∙ sym (append_assoc old (take n word) (drop n word)) in
    let first : get_or (old ++ word) k d ≡ t = ap (λ x. get_or x k d) whole ∙ get_or_append_left (old ++ take n word) (drop n word) d k p ∙ get_or_default (old ++ take n word) k d t p ∙ e in
    let second : get_or (old ++ word) (length old + n) d ≡ get_or word n d = get_or-append-add old word n d in
    distinct k (length old + n) d (omega (arith, p, sizes)) (omega (arith, length-append old word, within)) (ap (λ (x : Term). x.atom) first ∙ h ∙ ap (λ (x : Term). x.atom) (sym second))

pub returns-then-has_atom-clause-kept : goal.returns-then-has_atom-clause-kept
returns-then-has_atom-clause-kept c = λ all kept.
    let same = rw c.in-Some.is at kept in
    not_distinct all c.args.word.now c.loop-term.term-index _ c.loop-term-test.true (rw (c.as_slice.ensures.value, c.loop-term.invariant.0, same) at c.if-has_atom.ensures)

pub returns-in_default-clause-kept : goal.returns-in_default-clause-kept
returns-in_default-clause-kept c = λ all kept. let clash = rw c.in_default.is at kept in λ d. clash (front_distinct all c.args.word.now d)

pub loop-term-preserved : goal.loop-term-preserved
loop-term-preserved c =
    let i = c.loop-term.invariant in
    let old = c.in-Some.terms.items in
    let n = c.loop-term.term-index in
    let term = get_or c.args.word.now n _ in (
      c.push.ensures.items ∙ ap (λ x. x ++ term ∷ []) i.0 ∙ append_assoc old (take n c.args.word.now) (term ∷ []) ∙ ap (λ x. old ++ x) (sym (take_more c.args.word.now n _ c.loop-term-test.true)),
      rw c.push.ensures.items (all_pairs_push (λ t u. t.atom ≢ u.atom) c.loop-term.terms.items term i.1 (rw c.as_slice.ensures.value at c.if-has_atom.ensures)),
    )

pub returns-clause-kept : goal.returns-clause-kept
returns-clause-kept c = λ all kept.
    let same = rw c.in-Some.is at kept in
    c.loop-term.invariant.0 ∙ ap (λ x. x ++ take c.loop-term.term-index c.args.word.now) same ∙ ap (λ x. all ++ x) (take_all c.loop-term.term-index c.args.word.now c.loop-term-test.false)
