-- The name of a lawful move.
use Rattle.std.specs.Prelude.{◌≡◌, ◌≢◌, Bool, true, false, Option, None, Some, is_some}
use Rattle.board.specs.declared.game.Kind.{Kind}
use Rattle.board.specs.declared.game.Kind.TheVariants.{Pawn}
use Rattle.board.specs.declared.game.Unit.{Unit as Man}
use Rattle.board.specs.Board.{PlainBoard}
use Rattle.rules.specs.declared.goal.Goal.{Goal}
use Rattle.rules.specs.declared.goal.Goal.TheVariants.{MateOrStale}
use Rattle.rules.specs.Squares.{Place, Ply, unit_at}
use Rattle.rules.specs.Reach.{IsInCheck}
use Rattle.rules.specs.Moves.{IsMove, IsLawful, IsMated, IsStalemated}
use Rattle.algebraic.specs.declared.origin.Origin.{Origin}
use Rattle.algebraic.specs.declared.origin.Origin.TheVariants.{Nothing, File, Rank, Both}
use Rattle.algebraic.specs.declared.ending.Ending.{Ending}
use Rattle.algebraic.specs.declared.ending.Ending.TheVariants.{Mated, Stalemated, InCheck, Free}
use Rattle.algebraic.specs.declared.name.Name.{Name}
use Rattle.algebraic.specs.declared.naming.Notation.{Notation}

-- the kind of a unit, if there is one
abbrev pub kind_in : Option Man → Option Kind
kind_in None = None
kind_in (Some u) = Some u.kind

-- the kind of the unit on a square, if one stands there
abbrev pub kind_at : PlainBoard → Place → Option Kind
kind_at b s = kind_in (unit_at b s)

-- the other move is lawful, and another unit of the kind makes it to the same square
pub record IsRival (b : PlainBoard) (kind : Kind) (m other : Ply) : Type 0 where
  pub lawful : IsLawful b other
  pub target : other.to ≡ m.to
  pub origin : other.from ≢ m.from
  pub kind_is : kind_at b other.from ≡ Some kind

-- the two squares are alike in what is told
abbrev pub LooksAlike : Origin → Place → Place → Type 0
LooksAlike Nothing s t = Unit {0}
LooksAlike File s t = s.file ≡ t.file
LooksAlike Rank s t = s.rank ≡ t.rank
LooksAlike Both s t = s ≡ t

-- no rival comes from a square that is alike
abbrev pub TellsApart : PlainBoard → Kind → Ply → Origin → Type 0
TellsApart b kind m origin = (other : Ply) → IsRival b kind m other → LooksAlike origin other.from m.from → ⊥

-- the fewest letters that tell the move apart: none, else the file's, else the rank's, else both
abbrev pub IsLeastOrigin : PlainBoard → Kind → Ply → Origin → Type 0
IsLeastOrigin b kind m Nothing = TellsApart b kind m Nothing
IsLeastOrigin b kind m File = TellsApart b kind m File × ¬ TellsApart b kind m Nothing
IsLeastOrigin b kind m Rank = TellsApart b kind m Rank × ¬ TellsApart b kind m File
IsLeastOrigin b kind m Both = ¬ TellsApart b kind m File × ¬ TellsApart b kind m Rank

-- what is told of a unit's origin: a pawn's file where it captures, and the fewest letters of a piece
abbrev pub TellsOrigin : PlainBoard → Kind → Ply → Bool → Origin → Type 0
TellsOrigin b Pawn m true origin = origin ≡ File
TellsOrigin b Pawn m false origin = origin ≡ Nothing
TellsOrigin b kind m captures origin = IsLeastOrigin b kind m origin

-- the side to move is left so; a stalemate is told of where it is a goal
abbrev pub Leaves : Goal → PlainBoard → Ending → Type 0
Leaves goal q Mated = IsMated q
Leaves goal q Stalemated = (goal ≡ MateOrStale) × IsStalemated q
Leaves goal q InCheck = IsInCheck q q.mover × ¬ IsMated q
Leaves goal q Free = (IsInCheck q q.mover → ⊥) × (goal ≡ MateOrStale → IsStalemated q → ⊥)

-- the name of the move: who makes it, from where and to where, what it captures and becomes, and how it leaves the other side
pub record IsName (notation : Notation) (b : PlainBoard) (m : Ply) (name : Name) : Type 0 where
  pub symbols : name.symbols ≡ notation.symbols
  pub kind : kind_at b m.from ≡ Some name.kind
  pub captures : name.captures ≡ is_some (unit_at b m.to)
  pub origin : TellsOrigin b name.kind m name.captures name.origin
  pub from : name.from ≡ m.from
  pub to : name.to ≡ m.to
  pub promotion : name.promotion ≡ m.promotion
  pub ending : (q : PlainBoard) × IsMove b m q × Leaves notation.goal q name.ending
