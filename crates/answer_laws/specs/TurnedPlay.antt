-- Laws of boards that are turned about, and of play on them.
use Rattle.std.specs.Prelude.{◌≡◌, ℕ, ◌↔◌, true, false, length}
use Rattle.board.specs.declared.game.Side.{Side}
use Rattle.board.specs.Games.{other_side}
use Rattle.board.specs.Board.{PlainBoard}
use Rattle.rules.specs.declared.goal.Goal.{Goal}
use Rattle.rules.specs.Squares.{Ply}
use Rattle.rules.specs.Reach.{IsInCheck}
use Rattle.rules.specs.Moves.{IsMove}
use Rattle.rules.specs.Forces.{Forces}
use Rattle.laws.specs.Turnings.{Turning, turned_side, turned_move, IsTurned, HasNoPawn, MayTurn}

-- ---- turned boards

-- each board of 36 places can be turned each way
abbrev pub HasTurned : Type 0
HasTurned = (t : Turning) (b : PlainBoard) → length b.units ≡ 36 → (c : PlainBoard) × IsTurned t b c

-- and becomes one board only
abbrev pub HasOneTurned : Type 0
HasOneTurned = (t : Turning) (b c d : PlainBoard) → IsTurned t b c → IsTurned t b d → c ≡ d

-- for each turning there is one that undoes it
abbrev pub TurnsBack : Type 0
TurnsBack = (t : Turning) → (u : Turning) × ((b c : PlainBoard) → IsTurned t b c → IsTurned u c b)

-- and for each two there is one that does what they do, one after the other
abbrev pub TurnsTwice : Type 0
TurnsTwice = (t u : Turning) → (v : Turning) × ((b c d : PlainBoard) → IsTurned t b c → IsTurned u c d → IsTurned v b d)

-- P holds of each way to turn a board, the board and what it becomes, where it may be turned so
abbrev pub WhereTurned : (Turning → PlainBoard → PlainBoard → Type 0) → Type 0
WhereTurned P = (t : Turning) (b c : PlainBoard) → IsTurned t b c → MayTurn t b → P t b c

-- P holds of a board just where it holds of what the board becomes
abbrev pub StaysTurned : (PlainBoard → Type 0) → Type 0
StaysTurned P = WhereTurned (λ t b c. P b ↔ P c)

-- ---- play

-- each move, turned, is a move on the turned board; it leads to a turned board too, and one that may be turned so
abbrev pub MovesTurn : Type 0
MovesTurn = WhereTurned (λ t b c. (m : Ply) (q : PlainBoard) → IsMove b m q
    → (r : PlainBoard) × IsMove c (turned_move b.game t m) r × IsTurned t q r × MayTurn t q)

-- and the turned board has no other move
abbrev pub MovesTurnBack : Type 0
MovesTurnBack = WhereTurned (λ t b c. (m : Ply) (r : PlainBoard) → IsMove c m r
    → (k : Ply) × (q : PlainBoard) × (turned_move b.game t k ≡ m) × IsMove b k q × IsTurned t q r)

-- a side is in check just where what it becomes is
abbrev pub ChecksTurn : Type 0
ChecksTurn = WhereTurned (λ t b c. (side : Side) → IsInCheck b side ↔ IsInCheck c (turned_side t side))

-- what an attacker forces within n plies, what it becomes forces within n, and nothing else
abbrev pub ForcedTurns : Type 0
ForcedTurns = WhereTurned (λ t b c. (goal : Goal) (attacker : Side) (n : ℕ) → Forces goal attacker b n ↔ Forces goal (turned_side t attacker) c n)

-- within how many plies the side to move forces a goal stays the same, and so do the fewest
abbrev pub MoverForcesTurned : Type 0
MoverForcesTurned = (goal : Goal) (n : ℕ) → StaysTurned (λ b. Forces goal b.mover b n)

-- ---- the best known turnings

-- left and right are exchanged
abbrev pub files_mirror : Turning
files_mirror = record { left_right = true; top_bottom = false; diagonal = false; sides = false }

-- top and bottom are exchanged, and so are White and Black
abbrev pub sides_mirror : Turning
sides_mirror = record { left_right = false; top_bottom = true; diagonal = false; sides = true }

-- with left and right exchanged the same is forced
abbrev pub FilesMirror : Type 0
FilesMirror = (b c : PlainBoard) → IsTurned files_mirror b c → (goal : Goal) (attacker : Side) (n : ℕ) → Forces goal attacker b n ↔ Forces goal attacker c n

-- with White and Black exchanged, and top and bottom, the other side forces what the attacker forced
abbrev pub SidesMirror : Type 0
SidesMirror = (b c : PlainBoard) → IsTurned sides_mirror b c → (goal : Goal) (attacker : Side) (n : ℕ) → Forces goal attacker b n ↔ Forces goal (other_side attacker) c n

-- without pawns the same is forced in each of the eight ways to lay the board
abbrev pub EightWays : Type 0
EightWays = (t : Turning) (b c : PlainBoard) → t.sides ≡ false → HasNoPawn b → IsTurned t b c → (goal : Goal) (attacker : Side) (n : ℕ) → Forces goal attacker b n ↔ Forces goal attacker c n
