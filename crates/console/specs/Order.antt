-- The orders that the program answers: all but those of the programs of batches, that verify and compose.
use Rattle.std.specs.Prelude.{◌⊎◌, ⊤}
use Rattle.command_line.specs.declared.line.Order.{Order}
use Rattle.command_line.specs.declared.line.Order.TheVariants.{One, Batch, Verify, Certify, After, TreeAfter, Solution, Show}
use Rattle.command_line.specs.declared.line.Line.{Line}
use Rattle.command_line.specs.declared.line.Action.{Action}
use Rattle.command_line.specs.declared.line.Action.TheVariants.{Solve, Keys, Moves, Tree}
use Rattle.endings.specs.Run.{Run}
use Rattle.endings.specs.Words.{DoesNothing}
use Rattle.replies.specs.Output.{MayRead}
use Rattle.replies.specs.First.{MissesAt}
use Rattle.refusals.specs.Outcome.{IsOver}
use Rattle.console.specs.Playing.{RunsAfter, RunsFirst}
use Rattle.console.specs.Run.{RunsLine}

-- the run is one of the order
abbrev pub RunsOrder : Order → Run → Type 0
RunsOrder (One line) run = RunsLine line run
RunsOrder (After played) run = RunsAfter played run
RunsOrder (TreeAfter played goal limits) run = RunsFirst played goal limits run
RunsOrder (Batch goal limits options) run = DoesNothing run
RunsOrder (Verify subject) run = DoesNothing run
RunsOrder (Certify subject limits) run = DoesNothing run
RunsOrder (Solution subject limits options) run = DoesNothing run
RunsOrder (Show fen drawing) run = DoesNothing run

-- the order reads the input: a check does, where its position is sound
abbrev pub MayReadOf : Order → Type 0
MayReadOf (One line) = MayRead line
MayReadOf _ = ⊥

-- the action asks what the side to move can play: each search does, and the list of its moves
abbrev pub AsksOfMoves : Action → Type 0
AsksOfMoves (Solve goal limits) = ⊤
AsksOfMoves (Keys goal limits) = ⊤
AsksOfMoves (Tree goal limits) = ⊤
AsksOfMoves Moves = ⊤
AsksOfMoves _ = ⊥

-- the line asks it where the game is over
abbrev pub AsksWhereOver : Line → Type 0
AsksWhereOver line = AsksOfMoves line.action × IsOver line.fen.now

-- a line that is answered may tell standard error something: one that asks for moves, where the game is over, and a check, why a tree doesn't win
abbrev pub TellsMoreOf : Line → Type 0
TellsMoreOf line = AsksWhereOver line ⊎ MayRead line

-- standard error may be told more than why a run has no answer: by such a line, and by the tree of a first move that misses, what refutes it
abbrev pub TellsMore : Order → Type 0
TellsMore (One line) = TellsMoreOf line
TellsMore (TreeAfter played goal limits) = MissesAt played goal limits
TellsMore _ = ⊥
