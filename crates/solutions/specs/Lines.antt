-- Continuations, replies that are met, and the best line of a position in which the attacker is to move.
use Rattle.std.specs.Prelude.{◌≡◌, ℕ, ◌-◌, ◌⊎◌, ◌↔◌, List, [], ◌∷◌, AllPairs, Contains}
use Rattle.board.specs.declared.game.Game.{Game}
use Rattle.board.specs.Board.{PlainBoard}
use Rattle.rules.specs.declared.goal.Goal.{Goal}
use Rattle.rules.specs.Squares.{Ply}
use Rattle.rules.specs.Moves.{IsMove}
use Rattle.rules.specs.Order.{IsPlyBefore}
use Rattle.rules.specs.Forces.{IsReached, Forces}
use Rattle.problems.specs.Answer.{Wins, IsFewest, IsLeastWin}

-- the list has exactly the moves of which this holds, in order, so each once
pub record ListsMoves (game : Game) (P : Ply → Type 0) (moves : List Ply) : Type 0 where
  pub ordered : AllPairs (IsPlyBefore game) moves
  pub exact : (m : Ply) → Contains moves m ↔ P m

-- where n plies are the fewest, all continuations: the moves that force the goal in n plies
abbrev pub ListsContinuations : Goal → PlainBoard → ℕ → List Ply → Type 0
ListsContinuations goal b n moves = ListsMoves b.game (Wins goal b n) moves

-- behind the reply the attacker forces the goal within n plies
abbrev pub IsMet : Goal → PlainBoard → ℕ → Ply → Type 0
IsMet goal q n r = (p : PlainBoard) × IsMove q r p × Forces goal p.mover p n

-- behind the reply n plies are needed
abbrev pub Lasts : Goal → PlainBoard → ℕ → Ply → Type 0
Lasts goal q n r = (p : PlainBoard) × IsMove q r p × IsFewest goal p n

-- the least reply behind which n plies are needed
pub record IsLeastLasting (goal : Goal) (q : PlainBoard) (n : ℕ) (r : Ply) : Type 0 where
  pub lasts : Lasts goal q n r
  pub least : (s : Ply) → Lasts goal q n s → (s ≡ r) ⊎ IsPlyBefore q.game r s

-- The best line, where n plies are the fewest: the least move that takes n plies; where it doesn't end the game, the least of the replies that resist
-- longest, behind which n - 2 plies are needed; and then the best line there
abbrev pub IsBestLine : Goal → PlainBoard → ℕ → List Ply → Type 0
IsBestLine goal b n [] = ⊥
IsBestLine goal b n (m ∷ []) = IsLeastWin goal b n m × ((q : PlainBoard) × IsMove b m q × IsReached goal q)
IsBestLine goal b n (m ∷ r ∷ line) =
    IsLeastWin goal b n m
    × ((q : PlainBoard) × IsMove b m q × IsLeastLasting goal q (n - 2) r × ((p : PlainBoard) × IsMove q r p × IsBestLine goal p (n - 2) line))
