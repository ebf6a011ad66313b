-- The orders that the composer's program answers.
use Rattle.command_line.specs.declared.line.Order.{Order}
use Rattle.command_line.specs.declared.line.Order.TheVariants.{Certify, Solution, Show}
use Rattle.endings.specs.Run.{Run}
use Rattle.endings.specs.Words.{DoesNothing}
use Rattle.refusals.specs.Outcome.{IsOver}
use Rattle.composing.specs.Certifying.{RunsCertify}
use Rattle.composing.specs.Drawings.{RunsShow}
use Rattle.composing.specs.Solution.{RunsSolution}

-- the run is one of the order
abbrev pub ComposesOrder : Order → Run → Type 0
ComposesOrder (Certify subject limits) run = RunsCertify subject limits run
ComposesOrder (Solution subject limits options) run = RunsSolution subject options limits run
ComposesOrder (Show fen drawing) run = RunsShow fen.now drawing run
ComposesOrder _ run = DoesNothing run

-- the order searches where it is over
abbrev pub ComposesOver : Order → Type 0
ComposesOver (Certify subject limits) = IsOver subject.fen.now
ComposesOver (Solution subject limits options) = IsOver subject.fen.now
ComposesOver _ = ⊥
