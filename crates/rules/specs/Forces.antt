-- Forced mate, over all lawful moves, and the second goal, by which stalemate is as good.
use Rattle.std.specs.Prelude.{ℕ, zero, suc, ◌⊎◌, MatchBool}
use Rattle.board.specs.declared.game.Side.{Side}
use Rattle.board.specs.Games.{is_same_side}
use Rattle.board.specs.Board.{PlainBoard}
use Rattle.rules.specs.declared.goal.Goal.{Goal}
use Rattle.rules.specs.declared.goal.Goal.TheVariants.{Mate, MateOrStale}
use Rattle.rules.specs.Squares.{Ply}
use Rattle.rules.specs.Moves.{IsMove, IsLawful, IsMated, IsStalemated}

-- the side to move is where the goal wants it
abbrev pub IsReached : Goal → PlainBoard → Type 0
IsReached Mate b = IsMated b
IsReached MateOrStale b = IsMated b ⊎ IsStalemated b

-- what holds with the side to move, or with its opponent to move
abbrev pub OnTurn : Side → PlainBoard → Type 0 → Type 0 → Type 0
OnTurn side b P Q = MatchBool (is_same_side side b.mover) P Q

-- the attacker forces the goal within n plies
abbrev pub Forces : Goal → Side → PlainBoard → ℕ → Type 0
Forces goal attacker b zero = OnTurn attacker b ⊥ (IsReached goal b)
Forces goal attacker b (suc n) = OnTurn attacker b
    ((m : Ply) × (q : PlainBoard) × IsMove b m q × Forces goal attacker q n)
    (IsReached goal b ⊎ (((m : Ply) × IsLawful b m) × ((m : Ply) (q : PlainBoard) → IsMove b m q → Forces goal attacker q n)))
