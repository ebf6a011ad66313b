-- What a tree's fields mean.
use Rattle.std.specs.Prelude.{◌≡◌, ℕ, ◌<◌, ◌≤◌, length}
use Rattle.rules.specs.Squares.{Ply}
use Rattle.wintree.specs.declared.tree.Next.{Next}
use Rattle.wintree.specs.declared.tree.Next.TheVariants.{End, Replies}
use Rattle.wintree.specs.Plan.{Plan, ends, depth, plan_of, IsPlan}

-- the plan of a move and what stands after it
abbrev pub plan_after : {A : Type 0} → Ply → Next A → Plan
plan_after m (End end) = ends m end
plan_after m (Replies replies) = plan_of m replies.items

-- the replies, where there are any, are not an empty list
abbrev pub HasReplies : {A : Type 0} → Next A → Type 0
HasReplies (End end) = Unit {0}
HasReplies (Replies replies) = 0 < length replies.items

-- what a tree keeps: a list of replies isn't empty, the moves are those of the type `Move`, and the number is the
-- depth, at most 32
pub record KeepsPlan {A : Type 0} (m : Ply) (next : Next A) (nested : ℕ) : Type 0 where
  pub some : HasReplies next
  pub plan : IsPlan (plan_after m next)
  pub depth_is : nested ≡ depth (plan_after m next)
  pub limit : nested ≤ 32
