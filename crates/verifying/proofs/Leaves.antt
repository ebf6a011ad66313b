-- What is forced within at most three plies.
use Rattle.std.proofs.Common.{◌≡◌, ℕ, ◌↔◌, IsTrue, Bool, false, refl, ap, subst, ◌∙◌}
use Rattle.verifying.proofs.Common.{Side, White, Black, is_same_side, other_side, PlainBoard, Goal, Ply, IsMove, IsReached, Forces, mover-after, to_other}
use Rattle.board.proofs.RankText.{on_false as on_other}
use Rattle.moves.proofs.Looking.{other_twice}

pub other_turn : (s : Side) → is_same_side (other_side s) s ≡ false
other_turn White = refl
other_turn Black = refl

-- for the side that is not to move the goal is forced at once where it is reached
pub reached_now : (goal : Goal) (b : PlainBoard) (answer : Bool) → (IsTrue answer ↔ IsReached goal b) → IsTrue answer ↔ Forces goal (other_side b.mover) b 0
reached_now goal b answer h = (λ yes. to_other _ ⊥ (IsReached goal b) (other_turn b.mover) (h.0 yes), λ f. h.1 (on_other _ ⊥ (IsReached goal b) (other_turn b.mover) f))

-- after a move, for the other side than before, which is to move
pub for_other : (goal : Goal) (b : PlainBoard) (m : Ply) (q : PlainBoard) (n : ℕ) (answer : Bool) → IsMove b m q → (IsTrue answer ↔ Forces goal q.mover q n) → IsTrue answer ↔ Forces goal (other_side b.mover) q n
for_other goal b m q n answer move h = subst (λ (s : Side). IsTrue answer ↔ Forces goal s q n) (mover-after b m q move) h

-- and for the side that was to move
pub for_mover : (goal : Goal) (b : PlainBoard) (m : Ply) (q : PlainBoard) (n : ℕ) (answer : Bool) → IsMove b m q → (IsTrue answer ↔ Forces goal (other_side q.mover) q n) → IsTrue answer ↔ Forces goal b.mover q n
for_mover goal b m q n answer move h = subst (λ (s : Side). IsTrue answer ↔ Forces goal s q n) (ap other_side (mover-after b m q move) ∙ other_twice b.mover) h
