-- The height of a plan.
use Rattle.std.proofs.Common.{◌≡◌, ℕ, zero, suc, ◌+◌, ◌*◌, ◌<◌, ◌≤◌, max, List, [], ◌∷◌, length, get_or, ap, arith}
use Rattle.wintree.proofs.Common.{Ply, Plan, ends, splits, Replies, last, more, depth, deepest, deepest_in, replies_of, plan_of, height, highest, highest_in}

mutual
  -- a plan is at most twice as high as it is deep, less one
  pub height_limit : (plan : Plan) → height plan + 1 ≤ 2 * depth plan
  height_limit (ends m end) = omega arith
  height_limit (splits m replies) = omega (arith, highest_limit replies)

  highest_limit : (replies : Replies) → highest replies + 1 ≤ 2 * deepest replies
  highest_limit (last r plan) = height_limit plan
  highest_limit (more r plan replies) = omega (arith, height_limit plan, highest_limit replies)

highest-replies_of : (first : Ply × Plan) (others : List (Ply × Plan)) → highest (replies_of first others) ≡ highest_in (first ∷ others)
highest-replies_of first [] = omega arith
highest-replies_of first (next ∷ others) = ap (max (height first.1)) (highest-replies_of next others)

pub height-plan_of : (m : Ply) (replies : List (Ply × Plan)) → 0 < length replies → height (plan_of m replies) ≡ highest_in replies + 2
height-plan_of m [] some = absurd (omega arith)
height-plan_of m (first ∷ others) some = omega (arith, highest-replies_of first others)

pub depth_of_item : (replies : List (Ply × Plan)) (i : ℕ) (reply : Ply × Plan) → i < length replies → reply ≡ get_or replies i reply → depth reply.1 ≤ deepest_in replies
depth_of_item [] i reply in_range is = absurd (omega arith)
depth_of_item (first ∷ others) zero reply in_range is = omega (arith, ap (λ r. depth r.1) is)
depth_of_item (first ∷ others) (suc i) reply in_range is = omega (arith, depth_of_item others i reply (omega arith) is)
