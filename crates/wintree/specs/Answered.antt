-- Replies as a list, as the checker goes over them. Only the checker's own contracts cite this.
use Rattle.std.specs.Prelude.{ℕ, max, List, [], ◌∷◌, map, Contains}
use Rattle.board.specs.Board.{PlainBoard}
use Rattle.rules.specs.Squares.{Ply}
use Rattle.rules.specs.Moves.{IsMove}
use Rattle.rules.specs.declared.goal.Goal.{Goal}
use Rattle.wintree.specs.declared.flaws.Wrong.{Wrong}
use Rattle.wintree.specs.Flaws.{AreWrong, IsFlaw}
use Rattle.wintree.specs.Plan.{Plan}
use Rattle.wintree.specs.Wins.{Wins, height}

-- the replies, without their plans
abbrev pub moves_in : List (Ply × Plan) → List Ply
moves_in replies = map (λ reply. reply.0) replies

-- the plan wins in the position after the move
abbrev pub WinsAfter : Goal → PlainBoard → Ply → Plan → Type 0
WinsAfter goal q r plan = (b : PlainBoard) × IsMove q r b × Wins goal b plan

-- each reply's plan wins in the position after the reply
abbrev pub AllWin : Goal → PlainBoard → List (Ply × Plan) → Type 0
AllWin goal q [] = Unit {0}
AllWin goal q (reply ∷ replies) = WinsAfter goal q reply.0 reply.1 × AllWin goal q replies

-- the replies are wrong, or the line begins with one and goes on to a flaw of its plan
abbrev pub IsFlawBelow : Goal → PlainBoard → List (Ply × Plan) → List Ply → Wrong → Type 0
IsFlawBelow goal q replies [] wrong = AreWrong q (moves_in replies) wrong
IsFlawBelow goal q replies (r ∷ line) wrong =
    (below : Plan) × Contains replies (r, below) × (b : PlainBoard) × IsMove q r b × IsFlaw goal b below line wrong

-- the greatest height in a list
abbrev pub highest_in : List (Ply × Plan) → ℕ
highest_in [] = 0
highest_in (first ∷ others) = max (height first.1) (highest_in others)
