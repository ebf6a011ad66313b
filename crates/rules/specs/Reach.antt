-- Which squares a unit reaches, and which squares a side attacks.
use Rattle.std.specs.Prelude.{◌≡◌, ℤ, pos, ◌+ℤ◌, neg_ℤ, true, Option, Some, None}
use Rattle.board.specs.declared.game.Side.{Side}
use Rattle.board.specs.declared.game.Side.TheVariants.{White, Black}
use Rattle.board.specs.declared.game.Kind.TheVariants.{King}
use Rattle.board.specs.declared.game.Unit.{Unit as Man}
use Rattle.board.specs.declared.step.Mode.{Mode}
use Rattle.board.specs.declared.step.Mode.TheVariants.{Move, Capture, Both}
use Rattle.board.specs.declared.step.Step.{Step}
use Rattle.board.specs.Games.{IsPlayed, other_side}
use Rattle.board.specs.Denotation.{terms_of, Denotes}
use Rattle.board.specs.Board.{PlainBoard}
use Rattle.rules.specs.Squares.{Place, IsOnBoard, unit_at}

-- ranks ahead of a side, counted from rank 1: Black goes the other way
abbrev pub ahead_of : Side → ℤ → ℤ
ahead_of White dy = dy
ahead_of Black dy = neg_ℤ dy

-- t is dx files to the right of s and dy ranks up
pub record IsShift (dx dy : ℤ) (s t : Place) : Type 0 where
  pub file : pos t.file ≡ pos s.file +ℤ dx
  pub rank : pos t.rank ≡ pos s.rank +ℤ dy

-- t is one step from s
abbrev pub IsStep : Side → Step → Place → Place → Type 0
IsStep side step s t = IsShift step.dx (ahead_of side step.dy) s t

-- the step leads from s to t: at once, or for a rider repeated, over empty squares
pub data Leads (b : PlainBoard) (side : Side) (step : Step) : Place → Place → Type 0 where
  once : {s t : Place} → IsOnBoard b.game t → IsStep side step s t → Leads b side step s t
  again : {s u t : Place} → step.rider ≡ true → IsOnBoard b.game u → IsStep side step s u → unit_at b u ≡ None → Leads b side step u t → Leads b side step s t

-- what stands on the square where a step of this mode ends
abbrev pub Allows : Mode → Side → Option Man → Type 0
Allows Move side None = Unit {0}
Allows Move side (Some u) = ⊥
Allows Capture side None = ⊥
Allows Capture side (Some u) = u.side ≡ other_side side
Allows Both side None = Unit {0}
Allows Both side (Some u) = u.side ≡ other_side side

-- this step of the unit leads from s to t and may end there
pub record ReachesBy (b : PlainBoard) (u : Man) (step : Step) (s t : Place) (target : Option Man) : Type 0 where
  pub allows : Allows step.mode u.side target
  pub leads : Leads b u.side step s t

-- some step of the unit on s reaches t, if that is what stands on t
pub record Reaches (b : PlainBoard) (u : Man) (s t : Place) (target : Option Man) : Type 0 where
  pub step : Step
  pub played : IsPlayed b.game u.kind
  pub denoted : Denotes (terms_of u.kind) step
  pub reaches : ReachesBy b u step s t target

-- a unit of the side on s would reach t if an enemy stood there
pub record AttacksFrom (b : PlainBoard) (side : Side) (s t : Place) : Type 0 where
  pub unit : Man
  pub on_board : IsOnBoard b.game s
  pub stands : unit_at b s ≡ Some unit
  pub owner : unit.side ≡ side
  pub reaches : Reaches b unit s t (Some (record { side = other_side side; kind = King }))

-- some unit of the side attacks t
abbrev pub IsAttacked : PlainBoard → Place → Side → Type 0
IsAttacked b t side = (s : Place) × AttacksFrom b side s t

-- the side's king is attacked
pub record IsCheckAt (b : PlainBoard) (side : Side) (s : Place) : Type 0 where
  pub on_board : IsOnBoard b.game s
  pub king : unit_at b s ≡ Some (record { side = side; kind = King })
  pub attacked : IsAttacked b s (other_side side)

abbrev pub IsInCheck : PlainBoard → Side → Type 0
IsInCheck b side = (s : Place) × IsCheckAt b side s

-- the side that isn't to move is out of check
abbrev pub IsSound : PlainBoard → Type 0
IsSound b = IsInCheck b (other_side b.mover) → ⊥
