-- A first move that is given, with what follows it.
use Rattle.std.proofs.Common.{◌≡◌, ℕ, zero, suc, ◌-◌, inl, List, [], ◌∷◌, get_or, false, sym, subst}
use Rattle.solution_text.proofs.Common.{All-push, All-nil, Contains-get_or, PlainBoard, Goal, Ply, IsMove, IsLawful, IsFewest, Notation, ListsMoves, Refutes, IsTry, same_side-self, LeavesReplies, TellsFirst, IsFirstSolution}
use Rattle.board.specs.Games.{is_same_side}
use Rattle.rules.proofs.Forcing.{to_other, turn-own}
use Rattle.rules.specs.Forces.{IsReached, Forces}
use Rattle.rules.specs.Moves.{IsStalemated}
use Rattle.rules.specs.Reach.{IsInCheck}
use Rattle.rules.specs.declared.goal.Goal.TheVariants.{Mate, MateOrStale}
use Rattle.problems.specs.Answer.{Wins}
use Rattle.solutions.specs.declared.first_try.Try.{Try}

-- ---- a move that is no key

module _ (goal : Goal) (b : PlainBoard) (n : ℕ) (m : Ply) (q : PlainBoard) (move : IsMove b m q) (no_key : Wins goal b n m → ⊥) where
  other : is_same_side b.mover q.mover ≡ false
  other = turn-own b.mover b m q move (same_side-self b.mover)

  at_once : (k : ℕ) → IsReached goal q → Forces goal b.mover q k
  at_once zero reached = to_other _ _ _ other reached
  at_once (suc k) reached = to_other _ _ _ other (inl reached)

  -- it doesn't reach the goal
  pub misses : IsReached goal q → ⊥
  misses reached = no_key (q, move, at_once (n - 1) reached)

  -- and where it leaves no reply, it stalemates
  pub stalemates : ((r : Ply) → IsLawful q r → ⊥) → IsStalemated q
  stalemates none = record { no_check = λ check. misses (mated goal check); no_move = none }
    where
      mated : (aim : Goal) → IsInCheck q q.mover → IsReached aim q
      mated Mate check = record { check = check; no_move = none }
      mated MateOrStale check = inl (record { check = check; no_move = none })

-- ---- the replies that refute it

-- they are lawful
pub refutations_lawful : (goal : Goal) (b : PlainBoard) (n : ℕ) (m : Ply) (q : PlainBoard) (replies : List Ply) → IsMove b m q → ((r : Ply) × IsLawful q r) → ListsMoves q.game (Refutes goal q n) replies → LeavesReplies b m replies
refutations_lawful goal b n m q replies move some lists =
    (q, move, some, λ k d below. let w = (lists.exact (get_or replies k d)).0 (Contains-get_or replies k d below) in (w.0, w.1))

-- and so is a try's one
pub try_lawful : (goal : Goal) (b : PlainBoard) (n : ℕ) (t : Try) → IsTry goal b n t → LeavesReplies b t.first (t.refutation ∷ [])
try_lawful goal b n t is =
    let refutes = is.refutation.refutes in
    let lawful : IsLawful is.after t.refutation = (refutes.0, refutes.1) in
    (is.after, is.move, (t.refutation, lawful), All-push (IsLawful is.after) [] t.refutation (All-nil (IsLawful is.after)) lawful)

-- ---- the text

pub first_told : (notation : Notation) (goal : Goal) (b : PlainBoard) (n : ℕ) (m : Ply) (text : List ℕ) → notation.goal ≡ goal → IsFewest goal b n → TellsFirst notation b n m text → IsFirstSolution notation.symbols goal b m text
first_told notation goal b n m text same fewest (first, is, told) =
    subst (λ (x : Goal). IsFirstSolution notation.symbols x b m text) same (n, subst (λ (x : Goal). IsFewest x b n) (sym same) fewest, first, is, told)
