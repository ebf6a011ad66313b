use borrow.Author.Count.{below_more}
use Rattle.std.proofs.Common.{rules, ◌≡◌, ◌↔◌, ◌∷◌, [], ℕ, Bool, List, eqb, IsTrue, Contains, get_or, subst}
use Rattle.std.specs.List.{IsAnyAnswer}
use Rattle.board.proofs.Common.{get_or_default, IsLetter}
use Rattle.board.proofs.betza.has_foreign_byte.Goals as goal

contains_is : (xs : List ℕ) (x : ℕ) (r : Bool) → IsAnyAnswer (λ y b. eqb y x ≡ b) xs r → IsTrue r ↔ Contains xs x
contains_is xs x r h = search rules

pub loop-c-preserved : goal.loop-c-preserved
loop-c-preserved c = λ k d.
    let is = contains_is (109 ∷ 99 ∷ 102 ∷ 87 ∷ 70 ∷ 78 ∷ 82 ∷ 66 ∷ 81 ∷ 75 ∷ []) (get_or c.args.text.now c.loop-c.c-index 0) c.contains.result c.contains.ensures.cases in
    let here = subst IsLetter (get_or_default c.args.text.now c.loop-c.c-index 0 d c.loop-c-test.true) (is.0 c.if-not-contains.false) in
    below_more (λ i. IsLetter (get_or c.args.text.now i d)) c.loop-c.c-index (λ i lt. c.loop-c.invariant i d lt) here k
