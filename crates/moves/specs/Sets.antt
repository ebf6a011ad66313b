-- The units of a board as sets of cells, and what a unit sees.
use Rattle.std.specs.Prelude.{◌≡◌, ◌≢◌, ℕ, ◌↔◌, ◌⊎◌, List, Some, true}
use Rattle.board.specs.declared.game.Side.{Side}
use Rattle.board.specs.declared.game.Side.TheVariants as side
use Rattle.board.specs.declared.game.Kind.TheVariants.{King, Queen, Rook, Bishop, Knight, Pawn}
use Rattle.board.specs.declared.game.Unit.{Unit as Man}
use Rattle.board.specs.declared.terms.Atom.{Atom}
use Rattle.board.specs.Denotation.{IsAtomLeap}
use Rattle.board.specs.Board.{PlainBoard, is_of_side}
use Rattle.moves.specs.declared.sets.Class.{Class}
use Rattle.moves.specs.declared.sets.Class.TheVariants.{White, Black, Crowned, Straight, Slanted, Horsed, Foot}
use Rattle.moves.specs.declared.sets.Sets.{Sets}
use Rattle.rules.specs.Squares.{Place, unit_at}
use Rattle.cells.specs.Mailbox.{place_in, IsCell}
use Rattle.cells.specs.Ways.{Rides, files_of, ranks_of}
use Rattle.cells.specs.declared.tables.Way.{Way}
use Rattle.cells.specs.CellSets.{Has}
use Rattle.moves.specs.Words.{unpacked, IsPacked}

-- the unit is of the class: of a side, of a kind, or a rider along ranks and files, or along diagonals
abbrev pub IsOf : Class → Man → Type 0
IsOf White u = u.side ≡ side.White
IsOf Black u = u.side ≡ side.Black
IsOf Crowned u = u.kind ≡ King
IsOf Straight u = (u.kind ≡ Queen) ⊎ (u.kind ≡ Rook)
IsOf Slanted u = (u.kind ≡ Queen) ⊎ (u.kind ≡ Bishop)
IsOf Horsed u = u.kind ≡ Knight
IsOf Foot u = u.kind ≡ Pawn

-- a unit of the class stands on the square
pub record StandsAs (b : PlainBoard) (class : Class) (s : Place) : Type 0 where
  pub unit : Man
  pub stands : unit_at b s ≡ Some unit
  pub is : IsOf class unit

-- a rider
abbrev pub HasRider : PlainBoard → Place → Type 0
HasRider b s = StandsAs b Straight s ⊎ StandsAs b Slanted s

-- a unit of a side and a class
pub record StandsFor (b : PlainBoard) (side : Side) (class : Class) (s : Place) : Type 0 where
  pub unit : Man
  pub stands : unit_at b s ≡ Some unit
  pub owner : unit.side ≡ side
  pub is : IsOf class unit

-- the set has the cells of the units of the class
abbrev pub Holds : PlainBoard → Class → ℕ → Type 0
Holds b class set = (i : ℕ) → Has set i ↔ (IsCell b.game i × StandsAs b class (place_in i))

-- the set of a class
abbrev pub set_of : Sets → Class → ℕ
set_of s White = s.white
set_of s Black = s.black
set_of s Crowned = s.kings
set_of s Straight = s.straight
set_of s Slanted = s.slanted
set_of s Horsed = s.knights
set_of s Foot = s.pawns

-- each set has the cells of its class
abbrev pub Shows : PlainBoard → Sets → Type 0
Shows b s = (class : Class) → Holds b class (set_of s class)

-- a cell of the class after a unit went from one cell to another, where it is `placed`
abbrev pub HasMoved : ℕ → Class → ℕ → ℕ → Man → ℕ → Type 0
HasMoved set class from to placed i = (Has set i × (i ≢ from) × (i ≢ to)) ⊎ ((i ≡ to) × IsOf class placed)

-- each set after it
abbrev pub AreMoved : Sets → Sets → ℕ → ℕ → Man → Type 0
AreMoved s t from to placed = (class : Class) (i : ℕ) → Has (set_of t class) i ↔ HasMoved (set_of s class) class from to placed i

-- a cell of the class once the unit stands in the cell too
abbrev pub HasAdded : ℕ → Class → ℕ → Man → ℕ → Type 0
HasAdded set class cell unit i = Has set i ⊎ (IsOf class unit × (cell ≡ i))

-- each set then
abbrev pub AreAdded : Sets → Sets → ℕ → Man → Type 0
AreAdded s t cell unit = (class : Class) (i : ℕ) → Has (set_of t class) i ↔ HasAdded (set_of s class) class cell unit i

-- all sets are empty
abbrev pub HasNone : Sets → Type 0
HasNone s = (class : Class) → set_of s class ≡ 0

-- a way that an atom's leaps go, with what holds of it: along a rank or a file for a wazir, along a diagonal for a ferz
pub record SomeWay (atom : Atom) (P : Way → Type 0) : Type 0 where
  pub way : Way
  pub leap : IsAtomLeap atom (files_of way) (ranks_of way)
  pub holds : P way

-- a rider comes to the cell along such a way
abbrev pub RidesBy : PlainBoard → Atom → ℕ → ℕ → Type 0
RidesBy b atom i j = SomeWay atom (λ way. Rides b way i j)

-- the set has the cells of the side's units
abbrev pub Owns : PlainBoard → Side → ℕ → Type 0
Owns b side set = (i : ℕ) → Has set i ↔ (IsCell b.game i × (is_of_side side (unit_at b (place_in i)) ≡ true))

-- what a board keeps: words of a position, and sets that show the same
pub record IsKept (words : List ℕ) (sets : Sets) : Type 0 where
  pub packed : IsPacked words
  pub shows : Shows (unpacked words) sets
