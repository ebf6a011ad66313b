-- A best line, move by move.
use Rattle.std.proofs.Common.{All, ◌≡◌, ℕ, zero, suc, ◌-◌, ◌<◌, ◌≤◌, List, [], ◌∷◌, length, take, drop, get_or, sym, ◌∙◌, ap, subst, arith}
use Rattle.solution_text.proofs.Common.{take_all, Contains-get_or, PlainBoard, Goal, Ply, IsMove, IsLawful, one_after, same_side-self, IsFewest, Variation, ListsContinuations, IsBestLine, TellsVariation, IsVariation}
use Rattle.board.proofs.RankText.{on_true as on_own}

-- a list of one, and a list of two or more, by what stands in it
pub one_is : {X : Type 0} (xs : List X) (x : X) → 1 ≤ length xs → length xs < 2 → x ≡ get_or xs 0 x → xs ≡ x ∷ []
one_is [] x some few first = absurd (omega arith)
one_is (a ∷ []) x some few first = ap (λ y. y ∷ []) (sym first)
one_is (a ∷ b ∷ xs) x some few first = absurd (omega arith)

pub two_is : {X : Type 0} (xs : List X) (x y : X) → 2 ≤ length xs → x ≡ get_or xs 0 x → y ≡ get_or xs 1 y → xs ≡ x ∷ y ∷ take (length xs - 2) (drop 2 xs)
two_is [] x y some first second = absurd (omega arith)
two_is (a ∷ []) x y some first second = absurd (omega arith)
two_is (a ∷ b ∷ xs) x y some first second =
    let all : take (length (a ∷ b ∷ xs) - 2) xs ≡ xs = take_all _ xs (omega arith) in
    ap (λ ys. a ∷ b ∷ ys) (sym all) ∙ ap (λ z. z ∷ b ∷ take (length (a ∷ b ∷ xs) - 2) xs) (sym first) ∙ ap (λ z. x ∷ z ∷ take (length (a ∷ b ∷ xs) - 2) xs) (sym second)

-- nothing is forced in no ply
pub some_plies : (goal : Goal) (b : PlainBoard) (n : ℕ) → IsFewest goal b n → 0 < n
some_plies goal b zero fewest = absurd (on_own _ _ _ (same_side-self b.mover) fewest.forced)
some_plies goal b (suc n) fewest = omega arith

pub first_lawful : (goal : Goal) (b : PlainBoard) (n : ℕ) (m : Ply) (line : List Ply) → IsBestLine goal b n (m ∷ line) → IsLawful b m
first_lawful goal b n m [] best = (best.0.wins.0, best.0.wins.1)
first_lawful goal b n m (r ∷ line) best = (best.0.wins.0, best.0.wins.1)

module _ (goal : Goal) (b : PlainBoard) (n : ℕ) (m r : Ply) (line : List Ply) (best : IsBestLine goal b n (m ∷ r ∷ line)) (q : PlainBoard) (move : IsMove b m q) where
  same : best.1.0 ≡ q
  same = one_after b m best.1.0 q best.1.1 move

  pub reply_lawful : IsLawful q r
  reply_lawful = subst (λ x. IsLawful x r) same (best.1.3.0, best.1.3.1)

  module _ (p : PlainBoard) (reply : IsMove q r p) where
    same_next : best.1.3.0 ≡ p
    same_next = one_after q r best.1.3.0 p (subst (λ x. IsMove x r best.1.3.0) same best.1.3.1) reply

    pub rest_best : IsBestLine goal p (n - 2) line
    rest_best = subst (λ x. IsBestLine goal x (n - 2) line) same_next best.1.3.2

    pub fewer : 2 < n
    fewer = let some = some_plies goal best.1.2.lasts.0 (n - 2) best.1.2.lasts.2 in omega (arith, some)

-- continuations are lawful
pub continuations_lawful : (goal : Goal) (b : PlainBoard) (n : ℕ) (moves : List Ply) → ListsContinuations goal b n moves → All (IsLawful b) moves
continuations_lawful goal b n moves lists k d below = let wins = (lists.exact (get_or moves k d)).0 (Contains-get_or moves k d below) in (wins.0, wins.1)

-- what a variation tells, on the board that its reply leads to
pub tells_at : {A : Type 0} (goal : Goal) (q p : PlainBoard) (v : Variation A) → IsVariation goal q v → IsMove q v.reply p → TellsVariation goal p v
tells_at goal q p v h move = subst (λ x. TellsVariation goal x v) (one_after q v.reply h.0 p h.1 move) h.2
