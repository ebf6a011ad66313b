-- What is forced, from the list of lawful moves, round by round.
use Rattle.std.proofs.Common.{◌≡◌, ℕ, ◌+◌, ◌-◌, ◌*◌, ◌<◌, ◌≤◌, ◌⊎◌, inl, inr, zero, suc, sym, subst, ◌∙◌, arith, List, [], ◌∷◌, length, take, get_or, Bool, All, ◌↔◌, IsTrue, true, refl}
use Rattle.std.proofs.lemmas.Bool.{false≢true}
use Rattle.std.proofs.lemmas.Grind.{common_steps, elements}
use Rattle.std.proofs.lemmas.List.Elements.{All-append}
use Rattle.std.proofs.Math.Seq.{take-suc}
use Rattle.board.specs.declared.game.Side.{Side}
use Rattle.board.specs.declared.game.Side.TheVariants.{White, Black}
use Rattle.board.specs.Games.{is_same_side}
use Rattle.board.specs.Board.{PlainBoard}
use Rattle.rules.specs.Squares.{Ply}
use Rattle.rules.specs.declared.goal.Goal.{Goal}
use Rattle.rules.specs.Moves.{IsMove}
use Rattle.rules.specs.Order.{ListsLawful}
use Rattle.rules.specs.Forces.{IsReached, Forces}
use Rattle.rules.proofs.Keeps.{one_after}
use Rattle.rules.proofs.Forcing.{to_own, same_side-self, twice, twice-double, Forces-even}
use Rattle.problems.specs.Answer.{Wins, ForcesNothing}
use Rattle.board.proofs.RankText.{on_true as on_own}

-- ---- one move

-- a move wins where the position after it is decided so
pub wins_by : (goal : Goal) (b : PlainBoard) (n : ℕ) (m : Ply) (q : PlainBoard) (answer : Bool) → IsMove b m q → (IsTrue answer ↔ Forces goal b.mover q (n - 1)) → IsTrue answer ↔ Wins goal b n m
wins_by goal b n m q answer move h = (
  λ yes_is. (q, move, h.0 yes_is),
  λ (x, other, forces). h.1 (subst (λ (z : PlainBoard). Forces goal b.mover z (n - 1)) (one_after b m x q other move) forces),
)

-- on the attacker's turn a win is all that forces
forced_up : (goal : Goal) (b : PlainBoard) (k : ℕ) (m : Ply) → (q : PlainBoard) × IsMove b m q × Forces goal b.mover q k → Forces goal b.mover b (suc k)
forced_up goal b k m w = to_own _ _ _ (same_side-self b.mover) (m, w.0, w.1, w.2)

pub forced_by : (goal : Goal) (b : PlainBoard) (n : ℕ) (m : Ply) → 0 < n → Wins goal b n m → Forces goal b.mover b n
forced_by goal b n m some w = let up : suc (n - 1) ≡ n = omega arith in subst (Forces goal b.mover b) up (forced_up goal b (n - 1) m w)

some_wins : (goal : Goal) (b : PlainBoard) (k : ℕ) → Forces goal b.mover b (suc k) → (m : Ply) × (q : PlainBoard) × IsMove b m q × Forces goal b.mover q k
some_wins goal b k f = on_own _ _ _ (same_side-self b.mover) f

-- where no move wins, nothing is forced
pub none_forced : (goal : Goal) (b : PlainBoard) (n : ℕ) → 0 < n → ((m : Ply) → Wins goal b n m → ⊥) → Forces goal b.mover b n → ⊥
none_forced goal b n some none f =
    let up : n ≡ suc (n - 1) = omega arith in
    let w = some_wins goal b (n - 1) (subst (Forces goal b.mover b) up f) in
    none w.0 (w.1, w.2, w.3)

pub nothing_at_once : (goal : Goal) (b : PlainBoard) → ForcesNothing goal b 0
nothing_at_once goal b zero h f = on_own _ ⊥ (IsReached goal b) (same_side-self b.mover) f
nothing_at_once goal b (suc n) h f = absurd (omega (arith, h))

-- ---- one round

odd_up : (r : ℕ) → suc (twice r) ≡ 2 * r + 1
odd_up r = let e = twice-double r in omega arith

-- after a round of 2 r + 1 plies in vain nothing is forced within 2 r + 2
pub next_round : (goal : Goal) (b : PlainBoard) (r : ℕ) → ForcesNothing goal b (2 * r) → ((m : Ply) → Wins goal b (2 * r + 1) m → ⊥) → ForcesNothing goal b (2 * (r + 1))
next_round goal b r before none k h f = elim (split (2 * r) k (omega (arith, h))) [
  | inl small ↦ before k small f
  | inr (inl odd) ↦ none_forced goal b (2 * r + 1) (omega arith) none (subst (Forces goal b.mover b) odd f)
  | inr (inr even) ↦ none_forced goal b (2 * r + 1) (omega arith) none (subst (Forces goal b.mover b) (odd_up r) (Forces-even r goal b.mover b (same_side-self b.mover) (subst (Forces goal b.mover b) (even ∙ sym (λ i. suc (suc (twice-double r i)))) f)))
]
  where
    split : (n k : ℕ) → k ≤ suc (suc n) → (k ≤ n) ⊎ ((k ≡ n + 1) ⊎ (k ≡ suc (suc n)))
    split n k h = grind arith

-- within a list no default is read
pub same_default : (xs : List Ply) (i : ℕ) (d m : Ply) → i < length xs → get_or xs i m ≡ m → get_or xs i d ≡ m
same_default xs i d m h e = grind (arith, common_steps, elements)

module _ (goal : Goal) (b : PlainBoard) (n : ℕ) (xs : List Ply) (lists : ListsLawful b xs) where
  -- the moves before, and one more
  pub none_next : (i : ℕ) (m : Ply) → i < length xs → m ≡ get_or xs i m → (Wins goal b n m → ⊥) → All (λ l. Wins goal b n l → ⊥) (take i xs) → All (λ l. Wins goal b n l → ⊥) (take (i + 1) xs)
  none_next i m lt at none before =
      let up : suc i ≡ i + 1 = omega arith in
      subst (λ k. All (λ l. Wins goal b n l → ⊥) (take k xs)) up
      (subst (All (λ l. Wins goal b n l → ⊥)) (sym (take-suc xs i m lt)) (All-append (λ l. Wins goal b n l → ⊥) (take i xs) (get_or xs i m ∷ []) before (one (get_or xs i m) (subst (λ l. Wins goal b n l → ⊥) at none))))
    where
      one : (x : Ply) → (Wins goal b n x → ⊥) → All (λ l. Wins goal b n l → ⊥) (x ∷ [])
      one x h zero d small = h
      one x h (suc k) d small = absurd (omega arith)

pub same_mover : (s t : Side) → is_same_side s t ≡ true → s ≡ t
same_mover White White e = refl
same_mover White Black e = absurd (false≢true e)
same_mover Black White e = absurd (false≢true e)
same_mover Black Black e = refl
