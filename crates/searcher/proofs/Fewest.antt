-- The best plan wins in the fewest plies.
use Rattle.std.proofs.Common.{◌≡◌, ℕ, ◌-◌, ◌<◌, ◌≤◌, ◌⊎◌, inl, inr, arith}
use Rattle.board.specs.Board.{PlainBoard}
use Rattle.rules.specs.Squares.{Ply}
use Rattle.rules.specs.Moves.{IsMove, IsLawful}
use Rattle.rules.specs.declared.goal.Goal.{Goal}
use Rattle.rules.specs.Forces.{Forces}
use Rattle.rules.proofs.Forcing.{same_side-self}
use Rattle.problems.specs.Answer.{IsFewest}
use Rattle.wintree.specs.Plan.{Plan, ends, splits, Replies, last, more}
use Rattle.wintree.specs.Wins.{Wins, EachWins, height, highest}
use Rattle.wintree.proofs.Forced.{forced_for_mover}
use Rattle.searcher.specs.Best.{IsBest, EachBest}
use Rattle.searcher.proofs.Forcing.{some_ply, best_forces, two_plies}

pub first_reply : (goal : Goal) (q : PlainBoard) (replies : Replies) → EachBest goal q replies → (r : Ply) × IsLawful q r
first_reply goal q (last r plan) each = (r, (each.0, each.1))
first_reply goal q (more r plan replies) each = (r, (each.0.0, each.0.1))

mutual
  best_wins : (goal : Goal) (b : PlainBoard) (plan : Plan) → IsBest goal b plan → (n : ℕ) → Forces goal b.mover b n → Wins goal b plan × (height plan ≤ n)
  best_wins goal b (ends m end) best n f = (best.1, some_ply goal b.mover b n (same_side-self b.mover) f)
  best_wins goal b (splits m replies) best n f =
      let w = best.1 in
      let some = first_reply goal w.0 replies w.3 in
      let plies = two_plies goal b w.0 m best.0 w.1 n f some in
      let each = each_wins goal w.0 replies w.3 (n - 2) (best_forces goal b w.0 m best.0 w.1 n f some) in
      ((w.0, w.1, w.2, each.0), omega (arith, plies, each.1))

  each_wins : (goal : Goal) (q : PlainBoard) (replies : Replies) → EachBest goal q replies → (n : ℕ) → ((r : Ply) (p : PlainBoard) → IsMove q r p → Forces goal p.mover p n) → EachWins goal q replies × (highest replies ≤ n)
  each_wins goal q (last r plan) each n f =
      let below = best_wins goal each.0 plan each.2 n (f r each.0 each.1) in
      ((each.0, each.1, below.0), below.1)
  each_wins goal q (more r plan replies) each n f =
      let here = each.0 in
      let below = best_wins goal here.0 plan here.2 n (f r here.0 here.1) in
      let rest = each_wins goal q replies each.1 n f in
      (((here.0, here.1, below.0), rest.0), omega (arith, below.1, rest.1))

-- it wins, and is as high as the fewest plies are many
pub best_plan : (goal : Goal) (b : PlainBoard) (plan : Plan) → IsBest goal b plan → (n : ℕ) → IsFewest goal b n → Wins goal b plan × (height plan ≡ n)
best_plan goal b plan best n fewest = (w.0, exact (split n (height plan)))
  where
    w : Wins goal b plan × (height plan ≤ n)
    w = best_wins goal b plan best n fewest.forced

    split : (i j : ℕ) → (i ≤ j) ⊎ (j < i)
    split i j = grind arith

    exact : (n ≤ height plan) ⊎ (height plan < n) → height plan ≡ n
    exact (inl least) = omega (arith, least, w.1)
    exact (inr less) = absurd (fewest.fewer (height plan) less (forced_for_mover goal b plan w.0))
