-- The grammar of a tree's text: each plan has one text.
--     T = M '#' | M '=' | M '{' R ':' T ( ',' R ':' T )* '}'
--     M, R = square square promotion?
--     square = 'a'..'f' '1'..'6'
--     promotion = 'q' | 'r' | 'b' | 'n'
use Rattle.std.specs.Prelude.{◌≡◌, ℕ, List, ◌++◌, codes}
use Rattle.rules.specs.MoveText.{move_text}
use Rattle.wintree.specs.declared.tree.End.{End}
use Rattle.wintree.specs.declared.tree.End.TheVariants.{Mate, Stale}
use Rattle.wintree.specs.Plan.{Plan, ends, splits, Replies, last, more, IsPlan}

-- mate, and stalemate
abbrev pub end_text : End → List ℕ
end_text Mate = codes "#"
end_text Stale = codes "="

abbrev mutual
  pub text : Plan → List ℕ
  text (ends m end) = move_text m ++ end_text end
  text (splits m replies) = move_text m ++ codes "{" ++ replies_text replies ++ codes "}"

  pub replies_text : Replies → List ℕ
  replies_text (last r plan) = move_text r ++ codes ":" ++ text plan
  replies_text (more r plan replies) = move_text r ++ codes ":" ++ text plan ++ codes "," ++ replies_text replies

-- the bytes are the plan's text; a plan with a move off the board or an odd promotion has none
abbrev pub TreeText : List ℕ → Plan → Type 0
TreeText bytes plan = IsPlan plan × (bytes ≡ text plan)
