-- Check as the king sees it: what a unit of the king's side would take from the king's square.
use Rattle.std.specs.Prelude.{◌≡◌, ◌↔◌, ℕ}
use Rattle.board.specs.declared.game.Side.{Side}
use Rattle.board.specs.declared.game.Kind.{Kind}
use Rattle.board.specs.declared.game.Kind.TheVariants.{King, Queen, Rook, Bishop, Knight, Pawn}
use Rattle.board.specs.declared.game.Unit.{Unit as Man}
use Rattle.board.specs.declared.step.Mode.TheVariants.{Move}
use Rattle.board.specs.declared.step.Step.{Step}
use Rattle.board.specs.Denotation.{terms_of, Denotes}
use Rattle.board.specs.Board.{PlainBoard}
use Rattle.moves.specs.declared.sets.Class.{Class}
use Rattle.moves.specs.declared.sets.Class.TheVariants.{Crowned, Straight, Slanted, Horsed, Foot}
use Rattle.moves.specs.Sets.{StandsFor}
use Rattle.rules.specs.Squares.{Place}
use Rattle.rules.specs.Reach.{Leads, IsAttacked}
use Rattle.cells.specs.Mailbox.{place_in, IsCell}
use Rattle.cells.specs.CellSets.{Has}

-- a unit like u would take on k from s
pub record Aims (b : PlainBoard) (u : Man) (s k : Place) : Type 0 where
  pub step : Step
  pub denoted : Denotes (terms_of u.kind) step
  pub captures : step.mode ≡ Move → ⊥
  pub leads : Leads b u.side step s k

-- the class of the units that go as the kind does; a queen goes as a rook and as a bishop
abbrev pub class_of : Kind → Class
class_of King = Crowned
class_of Queen = Straight
class_of Rook = Straight
class_of Bishop = Slanted
class_of Knight = Horsed
class_of Pawn = Foot

-- a unit of the side that goes as the kind does stands on s, from where the kind would take on k
abbrev pub TakesAs : PlainBoard → Side → Kind → Place → Place → Type 0
TakesAs b side kind s k = StandsFor b side (class_of kind) s × Aims b (record { side = side; kind = kind }) s k

-- from some cell, on cell j
pub record IsSwept (b : PlainBoard) (side : Side) (kind : Kind) (j : ℕ) : Type 0 where
  pub from : ℕ
  pub cell : IsCell b.game from
  pub to : IsCell b.game j
  pub takes : TakesAs b side kind (place_in from) (place_in j)

-- the set has the cells that the side attacks
abbrev pub AreAttacked : PlainBoard → Side → ℕ → Type 0
AreAttacked b side set = (i : ℕ) → Has set i ↔ (IsCell b.game i × IsAttacked b (place_in i) side)
