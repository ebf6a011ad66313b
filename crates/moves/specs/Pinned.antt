-- Units that alone keep an enemy rider from their king.
use Rattle.std.specs.Prelude.{◌≡◌, ℕ, Some, None, true}
use Rattle.board.specs.declared.game.Side.{Side}
use Rattle.board.specs.declared.game.Unit.{Unit as Man}
use Rattle.board.specs.declared.step.Mode.TheVariants.{Move}
use Rattle.board.specs.declared.step.Step.{Step}
use Rattle.board.specs.Games.{other_side}
use Rattle.board.specs.Denotation.{terms_of, Denotes}
use Rattle.board.specs.Board.{PlainBoard}
use Rattle.rules.specs.Squares.{Place, IsOnBoard, unit_at}
use Rattle.rules.specs.Reach.{Leads}
use Rattle.cells.specs.Mailbox.{place_in}
use Rattle.cells.specs.CellSets.{Has}
use Rattle.cells.specs.Ways.{Rides}
use Rattle.cells.specs.declared.tables.Way.{Way}

-- a rider of the other side comes to the unit on s, and would come on from there to the king's square k
pub record IsPinned (b : PlainBoard) (side : Side) (k s : Place) : Type 0 where
  pub rider : Man
  pub from : Place
  pub step : Step
  pub on_board : IsOnBoard b.game from
  pub stands : unit_at b from ≡ Some rider
  pub owner : rider.side ≡ other_side side
  pub denoted : Denotes (terms_of rider.kind) step
  pub rides : step.rider ≡ true
  pub captures : step.mode ≡ Move → ⊥
  pub taken : unit_at b s ≡ None → ⊥
  pub to_unit : Leads b rider.side step from s
  pub to_king : Leads b rider.side step s k

-- that way the set has the unit next to the cell k, where one of the riders comes to that unit from behind it
abbrev pub HoldsPins : PlainBoard → ℕ → ℕ → ℕ → Way → Type 0
HoldsPins b riders k set way = (i r : ℕ) → (unit_at b (place_in i) ≡ None → ⊥) → Has riders r → Rides b way k i → Rides b way i r → Has set i
