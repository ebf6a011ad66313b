-- The last three plies.
use Rattle.std.proofs.Common.{◌≡◌, ℕ, ◌<◌, ◌≤◌, ◌↔◌, IsTrue, Bool, true, false, inl, inr, zero, suc, sym, subst, arith}
use Rattle.board.specs.declared.game.Side.{Side}
use Rattle.rules.specs.Moves.{IsLawful}
use Rattle.rules.specs.Squares.{Ply}
use Rattle.rules.specs.Forces.{IsReached, Forces}
use Rattle.rules.proofs.Forcing.{to_other, turn-other, Forces-more, Forces-even}
use Rattle.problems.specs.declared.question.Question.{Question}
use Rattle.problems.specs.Questions.{IsForced}
use Rattle.problems.specs.Tried.{is_own}
use Rattle.problems.proofs.Winning.{same_mover}
use Rattle.board.proofs.RankText.{on_true as on_own, on_false as on_other}

-- the mover is the attacker
pub at_once_for : (q : Question) (answer : Bool) → is_own q ≡ true → (IsTrue answer ↔ Forces q.goal q.position.mover q.position 1) → IsTrue answer ↔ IsForced q 1
at_once_for q answer own h = subst (λ (s : Side). IsTrue answer ↔ Forces q.goal s q.position 1) (sym (same_mover q.attacker q.position.mover own)) h

-- two plies are no better for the attacker than one
pub own_two : (q : Question) (answer : Bool) → is_own q ≡ true → (IsTrue answer ↔ IsForced q 1) → IsTrue answer ↔ IsForced q 2
own_two q answer own h = (λ is. Forces-more q.goal q.attacker q.position 1 (h.0 is), λ f. h.1 (Forces-even 0 q.goal q.attacker q.position own f))

-- with the defender to move one ply is no better than none
pub other_one : (q : Question) (answer : Bool) → is_own q ≡ false → (IsTrue answer ↔ IsForced q 0) → IsTrue answer ↔ IsForced q 1
other_one q answer other h = (
  λ is. Forces-more q.goal q.attacker q.position 0 (h.0 is),
  λ f. h.1 (to_other _ _ _ other (elim (on_other _ _ _ other f) [
    | inl there ↦ there
    | inr w ↦ absurd (on_own _ _ _ (turn-other q.attacker q.position w.0.0 w.0.1.0 w.0.1.1 other) (w.1 w.0.0 w.0.1.0 w.0.1.1))
  ])),
)

-- three plies are no better against the defender than two
pub other_three : (q : Question) (answer : Bool) → is_own q ≡ false → (IsTrue answer ↔ IsForced q 2) → IsTrue answer ↔ IsForced q 3
other_three q answer other h = (
  λ is. Forces-more q.goal q.attacker q.position 2 (h.0 is),
  λ f. h.1 (to_other _ _ _ other (elim (on_other _ _ _ other f) [
    | inl there ↦ inl there
    | inr w ↦ inr (w.0, λ m b move. Forces-even 0 q.goal q.attacker b (turn-other q.attacker q.position m b move other) (w.1 m b move))
  ])),
)

-- the defender has no move: the goal is reached now or never
pub other_stuck : (q : Question) (answer : Bool) → is_own q ≡ false → ((m : Ply) → IsLawful q.position m → ⊥) → (IsTrue answer ↔ IsReached q.goal q.position) → IsTrue answer ↔ IsForced q 2
other_stuck q answer other none h = (
  λ is. to_other _ _ _ other (inl (h.0 is)),
  λ f. h.1 (elim (on_other _ _ _ other f) [ inl there ↦ there | inr w ↦ absurd (none w.0.0 w.0.1) ]),
)

-- the same, for each number of plies of these
pub other_one_of : (q : Question) (n : ℕ) (answer : Bool) → is_own q ≡ false → n < 2 → (IsTrue answer ↔ IsForced q 0) → IsTrue answer ↔ IsForced q n
other_one_of q zero answer other lt h = h
other_one_of q (suc zero) answer other lt h = other_one q answer other h
other_one_of q (suc (suc n)) answer other lt h = absurd (omega (arith, lt))

pub other_three_of : (q : Question) (n : ℕ) (answer : Bool) → is_own q ≡ false → 2 ≤ n → n ≤ 3 → (IsTrue answer ↔ IsForced q 2) → IsTrue answer ↔ IsForced q n
other_three_of q zero answer other low high h = absurd (omega (arith, low))
other_three_of q (suc zero) answer other low high h = absurd (omega (arith, low))
other_three_of q (suc (suc zero)) answer other low high h = h
other_three_of q (suc (suc (suc zero))) answer other low high h = other_three q answer other h
other_three_of q (suc (suc (suc (suc n)))) answer other low high h = absurd (omega (arith, high))

pub own_two_of : (q : Question) (n : ℕ) (answer : Bool) → is_own q ≡ true → 0 < n → n < 3 → (IsTrue answer ↔ IsForced q 1) → IsTrue answer ↔ IsForced q n
own_two_of q zero answer own low high h = absurd (omega (arith, low))
own_two_of q (suc zero) answer own low high h = h
own_two_of q (suc (suc zero)) answer own low high h = own_two q answer own h
own_two_of q (suc (suc (suc n))) answer own low high h = absurd (omega (arith, high))
