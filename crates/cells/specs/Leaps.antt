-- Where a step leads at once.
use Rattle.std.specs.Prelude.{◌≡◌, ℕ}
use Rattle.board.specs.declared.game.Game.{Game}
use Rattle.board.specs.declared.game.Side.{Side}
use Rattle.board.specs.declared.game.Kind.{Kind}
use Rattle.board.specs.declared.step.Mode.TheVariants.{Move}
use Rattle.board.specs.declared.step.Step.{Step}
use Rattle.board.specs.Denotation.{terms_of, Denotes}
use Rattle.rules.specs.Reach.{ahead_of}
use Rattle.cells.specs.Mailbox.{IsAway, IsCell}

-- a step of the kind that may capture leads from cell i to cell j at once
pub record IsLeapt (g : Game) (side : Side) (kind : Kind) (i j : ℕ) : Type 0 where
  pub cell : IsCell g j
  pub step : Step
  pub denoted : Denotes (terms_of kind) step
  pub captures : step.mode ≡ Move → ⊥
  pub away : IsAway step.dx (ahead_of side step.dy) i j
