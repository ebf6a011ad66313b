-- A question has one answer.
use Rattle.std.proofs.Common.{◌≡◌, ℕ, List, sym, ap, ap₂, ◌∙◌, subst, arith}
use Rattle.board.specs.Board.{PlainBoard}
use Rattle.rules.specs.declared.goal.Goal.{Goal}
use Rattle.rules.specs.Order.{IsPlyBefore}
use Rattle.problems.specs.declared.answer.Answer.{Answer}
use Rattle.problems.specs.declared.answer.Answer.TheVariants.{Mate, NoneWithin}
use Rattle.problems.specs.Answer.{IsFewest, IsLeastWin, IsAnswer}
use Rattle.problems.specs.declared.key.Key.{Key}
use Rattle.problems.specs.Keys.{ListsKeys}
use Rattle.wintree.proofs.Listings.{lower_once}
use Rattle.searcher.proofs.Forcing.{fewest_most}
use Rattle.answer_laws.proofs.Listings.{one_listing}
use Rattle.answer_laws.proofs.Unique.{one_least}

pub one_fewest : (goal : Goal) (b : PlainBoard) (n k : ℕ) → IsFewest goal b n → IsFewest goal b k → n ≡ k
one_fewest goal b n k f g =
    let least = fewest_most goal b n k f g.forced in
    let most = fewest_most goal b k n g f.forced in
    omega (arith, least, most)

pub one_answer : (goal : Goal) (b : PlainBoard) (limit : ℕ) (x y : Answer) → IsAnswer goal b limit x → IsAnswer goal b limit y → x ≡ y
one_answer goal b limit (Mate n l) (Mate k m) x y =
    let plies : n ≡ k = one_fewest goal b n k x.1 y.1 in
    ap₂ Mate plies (one_least goal b k l m (subst (λ i. IsLeastWin goal b i l) plies x.2) y.2)
one_answer goal b limit (Mate n l) (NoneWithin k) x y = absurd (y.1 n x.0 x.1.forced)
one_answer goal b limit (NoneWithin k) (Mate n l) x y = absurd (x.1 n y.0 y.1.forced)
one_answer goal b limit (NoneWithin k) (NoneWithin n) x y = ap NoneWithin (x.0 ∙ sym y.0)

pub one_list_of_keys : (goal : Goal) (b : PlainBoard) (limit : ℕ) (x y : List Key) → ListsKeys goal b limit x → ListsKeys goal b limit y → x ≡ y
one_list_of_keys goal b limit x y lists also =
    one_listing (λ k l. IsPlyBefore b.game k.first l.first) (λ k l. lower_once _ _ _ _ _ _) x y lists.ordered also.ordered
    (λ k. (λ among. (also.exact k).1 ((lists.exact k).0 among), λ among. (lists.exact k).1 ((also.exact k).0 among)))
