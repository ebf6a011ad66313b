-- Why a plan doesn't win: the line of its moves to a wrong one of the attacker's, and what is wrong there.
use Rattle.std.specs.Prelude.{◌≡◌, ◌≢◌, ℕ, List, [], ◌∷◌, Some, IfSome, slice_get, Contains}
use Rattle.board.specs.Board.{PlainBoard}
use Rattle.rules.specs.Squares.{Ply}
use Rattle.rules.specs.Moves.{IsMove, IsLawful, IsMated, IsStalemated}
use Rattle.rules.specs.Order.{ListsLawful}
use Rattle.rules.specs.declared.goal.Goal.{Goal}
use Rattle.rules.specs.declared.goal.Goal.TheVariants.{Mate}
use Rattle.wintree.specs.declared.flaws.Wrong.{Wrong}
use Rattle.wintree.specs.declared.flaws.Wrong.TheVariants.{Unlawful, NotMate, NotStale, StaleForMate, LeftOut, UnlawfulReply, OutOfPlace}
use Rattle.wintree.specs.declared.tree.End.{End}
use Rattle.wintree.specs.declared.tree.End.TheVariants as ending
use Rattle.wintree.specs.Plan.{Plan, ends, splits, Replies, last, more}
use Rattle.wintree.specs.Wins.{moves_of}

-- the attacker's move
abbrev pub attack_of : Plan → Ply
attack_of (ends m end) = m
attack_of (splits m replies) = m

-- the replies, each with the plan that meets it
abbrev pub listed : Replies → List (Ply × Plan)
listed (last r plan) = (r, plan) ∷ []
listed (more r plan replies) = (r, plan) ∷ listed replies

-- the replies to the attacker's move, none where the line ends
abbrev pub replies_below : Plan → List (Ply × Plan)
replies_below (ends m end) = []
replies_below (splits m replies) = listed replies

-- The line may not end so: the defender isn't mated, or isn't stalemated, or mate alone is the goal.
abbrev pub IsWrongEnd : Goal → PlainBoard → End → Wrong → Type 0
IsWrongEnd goal q ending.Mate NotMate = ¬ IsMated q
IsWrongEnd goal q ending.Stale NotStale = ¬ IsStalemated q
IsWrongEnd Mate q ending.Stale StaleForMate = Unit {0}
IsWrongEnd _ q _ _ = ⊥

-- The replies aren't the lawful ones, in order: a lawful one is left out, or one isn't lawful, or a lawful one stands
-- at a place where another is due that stands elsewhere, or none is.
abbrev pub AreWrong : PlainBoard → List Ply → Wrong → Type 0
AreWrong q replies (LeftOut r) = IsLawful q r × ¬ Contains replies r
AreWrong q replies (UnlawfulReply r) = Contains replies r × ¬ IsLawful q r
AreWrong q replies (OutOfPlace r) =
    (moves : List Ply) × (i : ℕ) × ListsLawful q moves × IsLawful q r × (slice_get replies i ≡ Some r)
    × IfSome (slice_get moves i) (λ due. (due ≢ r) × Contains replies due)
AreWrong q replies _ = ⊥

-- The attacker's move isn't lawful, or it leads to a position where the line may not end so or the replies are wrong.
abbrev pub IsWrong : Goal → PlainBoard → Plan → Wrong → Type 0
IsWrong goal b plan Unlawful = ¬ IsLawful b (attack_of plan)
IsWrong goal b (ends m end) wrong = (q : PlainBoard) × IsMove b m q × IsWrongEnd goal q end wrong
IsWrong goal b (splits m replies) wrong = (q : PlainBoard) × IsMove b m q × AreWrong q (moves_of replies) wrong

-- The line is of the plan's moves, an attacker's one and a reply by turns, each of them lawful but maybe the last one,
-- which is the attacker's: there something is wrong.
abbrev pub IsFlaw : Goal → PlainBoard → Plan → List Ply → Wrong → Type 0
IsFlaw goal b plan [] wrong = ⊥
IsFlaw goal b plan (m ∷ []) wrong = (m ≡ attack_of plan) × IsWrong goal b plan wrong
IsFlaw goal b plan (m ∷ r ∷ line) wrong =
    (m ≡ attack_of plan) × (q : PlainBoard) × IsMove b m q
    × (below : Plan) × Contains (replies_below plan) (r, below) × (c : PlainBoard) × IsMove q r c
    × IsFlaw goal c below line wrong
