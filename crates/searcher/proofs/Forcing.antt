-- What the attacker's move leaves to the replies.
use Rattle.std.proofs.Common.{◌≡◌, ℕ, zero, suc, ◌+◌, ◌-◌, ◌<◌, ◌≤◌, ◌⊎◌, inl, inr, true, false, subst, arith}
use Rattle.board.specs.declared.game.Side.{Side}
use Rattle.board.specs.Games.{is_same_side}
use Rattle.board.specs.Board.{PlainBoard}
use Rattle.rules.specs.Squares.{Ply}
use Rattle.rules.specs.Moves.{IsMove, IsLawful}
use Rattle.rules.specs.declared.goal.Goal.{Goal}
use Rattle.rules.specs.declared.goal.Goal.TheVariants.{Mate, MateOrStale}
use Rattle.rules.specs.Reach.{IsInCheck}
use Rattle.rules.specs.Forces.{IsReached, Forces}
use Rattle.rules.proofs.Keeps.{one_after}
use Rattle.rules.proofs.Forcing.{turn-own, turn-other, same_side-self, Forces-more}
use Rattle.problems.specs.Answer.{IsFewest, Wins}
use Rattle.problems.proofs.Winning.{same_mover}
use Rattle.wintree.specs.Wins.{EndsAt}
use Rattle.wintree.specs.declared.tree.End.TheVariants as ending
use Rattle.searcher.specs.Best.{IsBestMove}
use Rattle.board.proofs.RankText.{on_true as on_own, on_false as on_other}

-- the goal isn't reached where a move is lawful
pub not_reached : (goal : Goal) (q : PlainBoard) → ((r : Ply) × IsLawful q r) → IsReached goal q → ⊥
not_reached Mate q some reached = reached.no_move some.0 some.1
not_reached MateOrStale q some reached = elim reached [ inl mated ↦ mated.no_move some.0 some.1 | inr stale ↦ stale.no_move some.0 some.1 ]

-- how the line ends where it is reached
pub ends_mated : (goal : Goal) (q : PlainBoard) → IsReached goal q → IsInCheck q q.mover → EndsAt goal q ending.Mate
ends_mated Mate q reached check = reached
ends_mated MateOrStale q reached check = elim reached [ inl mated ↦ mated | inr stale ↦ absurd (stale.no_check check) ]

pub ends_stale : (goal : Goal) (q : PlainBoard) → IsReached goal q → (IsInCheck q q.mover → ⊥) → EndsAt goal q ending.Stale
ends_stale Mate q reached safe = absurd (safe reached.check)
ends_stale MateOrStale q reached safe = elim reached [ inl mated ↦ absurd (safe mated.check) | inr stale ↦ stale ]

le_or_lt : (i j : ℕ) → (i ≤ j) ⊎ (j < i)
le_or_lt i j = grind arith

-- the fewest plies are no more than any that force the goal
pub fewest_most : (goal : Goal) (b : PlainBoard) (n k : ℕ) → IsFewest goal b n → Forces goal b.mover b k → n ≤ k
fewest_most goal b n k fewest f = elim (le_or_lt n k) [ inl within ↦ within | inr beyond ↦ absurd (fewest.fewer k beyond f) ]

module _ (goal : Goal) (side : Side) where
  -- what is forced within n plies is forced within n more
  forced_later : (b : PlainBoard) (d n k : ℕ) → k ≡ d + n → Forces goal side b n → Forces goal side b k
  forced_later b zero n k is f = subst (Forces goal side b) (omega (arith, is)) f
  forced_later b (suc d) n zero is f = absurd (omega (arith, is))
  forced_later b (suc d) n (suc k) is f = Forces-more goal side b k (forced_later b d n k (omega (arith, is)) f)

  pub forced_within : (b : PlainBoard) (n k : ℕ) → n ≤ k → Forces goal side b n → Forces goal side b k
  forced_within b n k within f = forced_later b (k - n) n k (omega arith) f

  -- nothing is forced within no ply on the attacker's own turn
  pub some_ply : (b : PlainBoard) (n : ℕ) → is_same_side side b.mover ≡ true → Forces goal side b n → 0 < n
  some_ply b zero own f = absurd (on_own _ _ _ own f)
  some_ply b (suc n) own f = omega arith

  -- what is left to each reply of n plies
  left_to_each : (q : PlainBoard) (n : ℕ) → is_same_side side q.mover ≡ false → ((r : Ply) × IsLawful q r) → Forces goal side q n → (0 < n) × ((r : Ply) (p : PlainBoard) → IsMove q r p → Forces goal side p (n - 1))
  left_to_each q zero other some f = absurd (not_reached goal q some (on_other _ _ _ other f))
  left_to_each q (suc n) other some f = elim (on_other _ _ _ other f) [
    | inl reached ↦ absurd (not_reached goal q some reached)
    | inr w ↦ (omega arith, λ r p move. subst (Forces goal side p) (omega arith) (w.1 r p move))
  ]

  -- with no reply the goal is reached
  pub reached_now : (q : PlainBoard) (n : ℕ) → is_same_side side q.mover ≡ false → ((r : Ply) → IsLawful q r → ⊥) → Forces goal side q n → IsReached goal q
  reached_now q zero other none f = on_other _ _ _ other f
  reached_now q (suc n) other none f = elim (on_other _ _ _ other f) [
    | inl reached ↦ reached
    | inr w ↦ absurd (none w.0.0 w.0.1)
  ]

-- after a move that wins within so many plies
module _ (goal : Goal) (b q : PlainBoard) (m : Ply) (limit : ℕ) (won : Wins goal b limit m) (move : IsMove b m q) where
  other_turn : is_same_side b.mover q.mover ≡ false
  other_turn = turn-own b.mover b m q move (same_side-self b.mover)

  won_left : Forces goal b.mover q (limit - 1)
  won_left = subst (λ x. Forces goal b.mover x (limit - 1)) (one_after b m won.0 q won.1 move) won.2

  pub won_reached : ((r : Ply) → IsLawful q r → ⊥) → IsReached goal q
  won_reached none = reached_now goal b.mover q (limit - 1) other_turn none won_left

  module _ (some : (r : Ply) × IsLawful q r) where
    left : (0 < limit - 1) × ((r : Ply) (p : PlainBoard) → IsMove q r p → Forces goal b.mover p (limit - 1 - 1))
    left = left_to_each goal b.mover q (limit - 1) other_turn some won_left

    pub won_plies : 2 ≤ limit
    won_plies = let plies = left.0 in omega arith

    pub won_forces : (r : Ply) (p : PlainBoard) → IsMove q r p → Forces goal p.mover p (limit - 2)
    won_forces r p reply =
        let fewer : limit - 1 - 1 ≡ limit - 2 = omega arith in
        subst (λ (s : Side). Forces goal s p (limit - 2)) (same_mover b.mover p.mover (turn-other b.mover q r p reply other_turn))
        (subst (Forces goal b.mover p) fewer (left.1 r p reply))

-- a best move wins within any plies in which the goal is forced
pub best_wins : (goal : Goal) (b : PlainBoard) (m : Ply) → IsBestMove goal b m → (limit : ℕ) → Forces goal b.mover b limit → Wins goal b limit m
best_wins goal b m best limit forced =
    let within = fewest_most goal b best.0 limit best.1 forced in
    let w = best.2.wins in
    (w.0, w.1, forced_within goal b.mover w.0 (best.0 - 1) (limit - 1) (omega arith) w.2)

module _ (goal : Goal) (b q : PlainBoard) (m : Ply) (best : IsBestMove goal b m) (move : IsMove b m q) (limit : ℕ) (forced : Forces goal b.mover b limit) (some : (r : Ply) × IsLawful q r) where
  pub two_plies : 2 ≤ limit
  two_plies = won_plies goal b q m limit (best_wins goal b m best limit forced) move some

  pub best_forces : (r : Ply) (p : PlainBoard) → IsMove q r p → Forces goal p.mover p (limit - 2)
  best_forces = won_forces goal b q m limit (best_wins goal b m best limit forced) move some
