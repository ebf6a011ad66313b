-- Winning trees, and their height.
use Rattle.std.specs.Prelude.{ℕ, suc, max, List, [], ◌∷◌}
use Rattle.board.specs.Board.{PlainBoard}
use Rattle.rules.specs.Squares.{Ply}
use Rattle.rules.specs.Moves.{IsMove, IsMated, IsStalemated}
use Rattle.rules.specs.Order.{ListsLawful}
use Rattle.rules.specs.declared.goal.Goal.{Goal}
use Rattle.rules.specs.declared.goal.Goal.TheVariants.{Mate, MateOrStale}
use Rattle.wintree.specs.declared.tree.End.{End}
use Rattle.wintree.specs.declared.tree.End.TheVariants as ending
use Rattle.wintree.specs.Plan.{Plan, ends, splits, Replies, last, more}

-- The line may end so: mate stands exactly where the defender is mated, and stalemate, which wins for one goal
-- alone, exactly where the defender is stalemated.
abbrev pub EndsAt : Goal → PlainBoard → End → Type 0
EndsAt goal b ending.Mate = IsMated b
EndsAt Mate b ending.Stale = ⊥
EndsAt MateOrStale b ending.Stale = IsStalemated b

-- the replies, without their plans
abbrev pub moves_of : Replies → List Ply
moves_of (last r plan) = r ∷ []
moves_of (more r plan replies) = r ∷ moves_of replies

abbrev mutual
  -- The plan wins for the side to move: its move leads to a position, and there the line ends rightly, or the replies
  -- are exactly the lawful ones, in order, and each reply's plan wins.
  pub Wins : Goal → PlainBoard → Plan → Type 0
  Wins goal b (ends m end) = (q : PlainBoard) × IsMove b m q × EndsAt goal q end
  Wins goal b (splits m replies) = (q : PlainBoard) × IsMove b m q × ListsLawful q (moves_of replies) × EachWins goal q replies

  -- each reply's plan wins in the position after the reply
  pub EachWins : Goal → PlainBoard → Replies → Type 0
  EachWins goal q (last r plan) = (b : PlainBoard) × IsMove q r b × Wins goal b plan
  EachWins goal q (more r plan replies) = ((b : PlainBoard) × IsMove q r b × Wins goal b plan) × EachWins goal q replies

-- 1 for a move that ends the line, else 2 more than the greatest height after a reply
abbrev mutual
  pub height : Plan → ℕ
  height (ends m end) = 1
  height (splits m replies) = suc (suc (highest replies))

  pub highest : Replies → ℕ
  highest (last r plan) = height plan
  highest (more r plan replies) = max (height plan) (highest replies)
