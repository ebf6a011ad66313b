-- A plan made of a list of replies.
use Rattle.std.proofs.Common.{◌≡◌, ℕ, suc, ◌+◌, ◌<◌, ◌≤◌, max, List, [], ◌∷◌, ◌++◌, length, sym, ◌∙◌, subst, ap, arith, All, Vec}
use Rattle.wintree.proofs.Common.{length_push, recursion_from_All, All-push, AllByRecursion, plan_after, HasReplies, KeepsPlan, Ply, IsPly, Plan, depth, deepest, deepest_in, replies_of, plan_of, IsPlan, ArePlans, ArePlansIn}
use Rattle.wintree.specs.declared.tree.Next.{Next}
use Rattle.wintree.specs.declared.tree.Next.TheVariants.{Replies}

pub deepest-replies_of : (first : Ply × Plan) (others : List (Ply × Plan)) → deepest (replies_of first others) ≡ deepest_in (first ∷ others)
deepest-replies_of first [] = omega arith
deepest-replies_of first (next ∷ others) = ap (max (depth first.1)) (deepest-replies_of next others)

-- a list of replies is one deeper than the deepest of them
pub depth-plan_of : (m : Ply) (replies : List (Ply × Plan)) → 0 < length replies → depth (plan_of m replies) ≡ suc (deepest_in replies)
depth-plan_of m [] some = absurd (omega arith)
depth-plan_of m (first ∷ others) some = ap suc (deepest-replies_of first others)

deepest_in_limit : (replies : List (Ply × Plan)) → AllByRecursion (λ reply. depth reply.1 ≤ 31) replies → deepest_in replies ≤ 31
deepest_in_limit [] each = omega arith
deepest_in_limit (first ∷ others) each = omega (arith, each.0, deepest_in_limit others each.1)

-- a list whose moves are moves makes such a plan
plans_of : (first : Ply × Plan) (others : List (Ply × Plan)) → ArePlansIn (first ∷ others) → ArePlans (replies_of first others)
plans_of first [] plans = (plans.0, plans.1)
plans_of first (next ∷ others) plans = (plans.0, plans.1, plans_of next others plans.2)

pub plan-plan_of : (m : Ply) (replies : List (Ply × Plan)) → IsPly m → ArePlansIn replies → IsPlan (plan_of m replies)
plan-plan_of m [] ply plans = ply
plan-plan_of m (first ∷ others) ply plans = (ply, plans_of first others plans)

plans-push : (replies : List (Ply × Plan)) (reply : Ply × Plan) → ArePlansIn replies → IsPly reply.0 → IsPlan reply.1 → ArePlansIn (replies ++ reply ∷ [])
plans-push [] reply plans ply plan = (ply, plan, tt)
plans-push (first ∷ others) reply plans ply plan = (plans.0, plans.1, plans-push others reply plans.2 ply plan)

-- one reply more in a list
module _ (all list : List (Ply × Plan)) (r : Ply) (plan : Plan) (is : all ≡ list ++ (r, plan) ∷ []) where
  pub some_more : 0 < length all
  some_more = omega (arith, ap length is, length_push list (r, plan))

  pub plans_more : ArePlansIn list → IsPly r → IsPlan plan → ArePlansIn all
  plans_more plans ply is_plan = subst ArePlansIn (sym is) (plans-push list (r, plan) plans ply is_plan)

  pub room_more : (inside : ℕ) → All (λ reply. depth reply.1 + inside ≤ 32) list → depth plan + inside ≤ 32 → All (λ reply. depth reply.1 + inside ≤ 32) all
  room_more inside room below = subst (All (λ reply. depth reply.1 + inside ≤ 32)) (sym is) (All-push (λ reply. depth reply.1 + inside ≤ 32) list (r, plan) room below)

-- what `Tree::node` makes is a tree
pub kept_node : {A : Type 0} (m : Ply) (replies : Vec (Ply × Plan) A) (nested : ℕ) → IsPly m → ArePlansIn replies.items → 0 < length replies.items → All (λ reply. depth reply.1 ≤ 31) replies.items → nested ≡ deepest_in replies.items → KeepsPlan m (Replies replies) (nested + 1)
kept_node m replies nested ply plans some room is =
    record {
      some = some;
      plan = plan-plan_of m replies.items ply plans;
      depth_is = omega (arith, depth-plan_of m replies.items some);
      limit = omega (arith, deepest_in_limit replies.items (recursion_from_All _ replies.items room));
    }

-- the fields of a tree whose list of replies was read
pub opened : {A : Type 0} (m : Ply) (next read : Next A) (replies : Vec (Ply × Plan) A) (plan : Plan) (list : List (Ply × Plan)) → plan_after m next ≡ plan → HasReplies next → read ≡ next → read ≡ Replies replies → list ≡ replies.items
    → (0 < length list) × (plan ≡ plan_of m list) × (depth plan ≡ suc (deepest_in list))
opened m next read replies plan list view_is some read_is is list_is =
    let next_is : next ≡ Replies replies = sym read_is ∙ is in
    let in_list = subst (λ xs. 0 < length xs) (sym list_is) (subst HasReplies next_is some) in
    let plan_is = sym view_is ∙ ap (plan_after m) next_is ∙ ap (plan_of m) (sym list_is) in
    (in_list, plan_is, ap depth plan_is ∙ depth-plan_of m list in_list)
