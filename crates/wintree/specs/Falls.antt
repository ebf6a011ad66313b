-- No tree below a tree is as deep.
use Rattle.std.specs.Prelude.{ℕ, suc, ◌+◌, ◌≤◌, max, List, [], ◌∷◌}
use Rattle.std.proofs.Common.{arith}
use denote.Param.Weighed.{most}
use Rattle.std.specs.declared.alloc.Allocator.{Ghosts}
use Rattle.rules.specs.Squares.{Ply}
use Rattle.wintree.specs.declared.tree.Next.{Next}
use Rattle.wintree.specs.declared.tree.Next.TheVariants.{End, Replies}
use Rattle.wintree.specs.declared.tree.Tree.TheDeep.{deep-Next}
use Rattle.wintree.specs.declared.tree.Tree.TheShapes.{weighed-Next-Replies-0-at-2}
use Rattle.wintree.specs.Plan.{Plan, depth, deepest, plan_of, replies_of}
use Rattle.wintree.specs.View.{plan_after}

-- what a reply and its plan weigh: one more than the plan's depth
abbrev plan_weight : (A : Type 0) → Ply × Plan → ℕ
plan_weight A = (weighed-Next-Replies-0-at-2 A).weight Plan (λ plan. depth plan + 1)

falls_of : (A : Type 0) (first : Ply × Plan) (others : List (Ply × Plan)) → most (plan_weight A) (first ∷ others) ≤ suc (deepest (replies_of first others))
falls_of A first [] = omega arith
falls_of A first (next ∷ others) = omega (arith, falls_of A next others)

falls_of_list : (A : Type 0) (m : Ply) (replies : List (Ply × Plan)) → most (plan_weight A) replies ≤ depth (plan_of m replies)
falls_of_list A m [] = omega arith
falls_of_list A m (first ∷ others) = falls_of A first others

pub falls : {A : Type 0} (ghosts : Ghosts A) (m : Ply) (next : Next A) → max (deep-Next A ghosts next) 0 ≤ depth (plan_after m next)
falls ghosts m (End end) = omega arith
falls {A} ghosts m (Replies replies) = omega (arith, falls_of_list A m replies.items)
