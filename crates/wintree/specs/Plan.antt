-- What a tree is to contracts.
use Rattle.std.specs.Prelude.{◌≡◌, ℕ, suc, max, List, [], ◌∷◌}
use Rattle.std.proofs.Common.{ap₂}
use Rattle.std.specs.Coded.{Coded}
use base.Stored.{Gv, gnil, gnum, gcons}
use Rattle.rules.specs.Squares.{Ply}
use Rattle.rules.specs.Moves.{IsPly}
use Rattle.rules.specs.contracts.plies.Move.{the_row as move_row}
use Rattle.wintree.specs.declared.tree.End.{End}
use Rattle.wintree.specs.declared.tree.End.TheVariants.{Mate}
use Rattle.wintree.specs.contracts.tree.End.{the_row as end_row}

mutual
  -- an attacker's move, and then the end of the line or the replies
  pub data Plan : Type 0 where
    ends : Ply → End → Plan
    splits : Ply → Replies → Plan

  -- one or more replies in order, each with the plan that meets it
  pub data Replies : Type 0 where
    last : Ply → Plan → Replies
    more : Ply → Plan → Replies → Replies

-- how many attacker's moves are nested
abbrev mutual
  pub depth : Plan → ℕ
  depth (ends m end) = 1
  depth (splits m replies) = suc (deepest replies)

  pub deepest : Replies → ℕ
  deepest (last r plan) = depth plan
  deepest (more r plan replies) = max (depth plan) (deepest replies)

-- each move of the plan is one that the type `Move` keeps
abbrev mutual
  pub IsPlan : Plan → Type 0
  IsPlan (ends m end) = IsPly m
  IsPlan (splits m replies) = IsPly m × ArePlans replies

  pub ArePlans : Replies → Type 0
  ArePlans (last r plan) = IsPly r × IsPlan plan
  ArePlans (more r plan replies) = IsPly r × IsPlan plan × ArePlans replies

-- ---- a plan of a list of replies

-- the greatest depth in a list
abbrev pub deepest_in : List (Ply × Plan) → ℕ
deepest_in [] = 0
deepest_in (first ∷ others) = max (depth first.1) (deepest_in others)

-- each move in a list, and in its plans, is one that the type `Move` keeps
abbrev pub ArePlansIn : List (Ply × Plan) → Type 0
ArePlansIn [] = Unit {0}
ArePlansIn (first ∷ others) = IsPly first.0 × IsPlan first.1 × ArePlansIn others

-- the replies of a list with this first one
abbrev pub replies_of : Ply × Plan → List (Ply × Plan) → Replies
replies_of first [] = last first.0 first.1
replies_of first (next ∷ others) = more first.0 first.1 (replies_of next others)

-- the plan of a move and a list of replies. A tree's list is never empty
abbrev pub plan_of : Ply → List (Ply × Plan) → Plan
plan_of m [] = ends m Mate
plan_of m (first ∷ others) = splits m (replies_of first others)

-- ---- a plan's code, by which proofs tell plans apart

abbrev mutual
  pub code : Plan → Gv
  code (ends m end) = gcons gnil (gcons (move_row.coded.code m) (end_row.coded.code end))
  code (splits m replies) = gcons (gnum 0) (gcons (move_row.coded.code m) (replies_code replies))

  pub replies_code : Replies → Gv
  replies_code (last r plan) = gcons gnil (gcons (move_row.coded.code r) (code plan))
  replies_code (more r plan replies) = gcons (gnum 0) (gcons (gcons (move_row.coded.code r) (code plan)) (replies_code replies))

mutual
  pub same_plan : (a b : Plan) → code a ≡ code b → a ≡ b
  same_plan (ends m end) (ends n end') e = ap₂ ends (move_row.coded.inj m n (cc)) (end_row.coded.inj end end' (cc))
  same_plan (ends m end) (splits n replies) e = cc
  same_plan (splits m replies) (ends n end) e = cc
  same_plan (splits m replies) (splits n others) e = ap₂ splits (move_row.coded.inj m n (cc)) (same_replies replies others (cc))

  pub same_replies : (a b : Replies) → replies_code a ≡ replies_code b → a ≡ b
  same_replies (last r plan) (last s other) e = ap₂ last (move_row.coded.inj r s (cc)) (same_plan plan other (cc))
  same_replies (last r plan) (more s other others) e = cc
  same_replies (more r plan replies) (last s other) e = cc
  same_replies (more r plan replies) (more s other others) e =
      let same_move : r ≡ s = move_row.coded.inj r s (cc) in
      let same_below : plan ≡ other = same_plan plan other (cc) in
      let same_rest : replies ≡ others = same_replies replies others (cc) in
      cc

abbrev pub plan_code : Coded Plan
plan_code = record { code = code; inj = same_plan }
