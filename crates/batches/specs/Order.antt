-- The order that the program of batches answers.
use Rattle.std.specs.Prelude.{◌≡◌, ⊤, None}
use Rattle.command_line.specs.declared.line.Order.{Order}
use Rattle.command_line.specs.declared.line.Order.TheVariants.{Batch}
use Rattle.context.specs.Limits.{fault_of}
use Rattle.endings.specs.Run.{Run}
use Rattle.endings.specs.Words.{DoesNothing}
use Rattle.batches.specs.Batch.{RunsBatch}

-- the run is one of the order
abbrev pub BatchesOrder : Order → Run → Type 0
BatchesOrder (Batch goal limits options) run = RunsBatch (record { goal = goal; limits = limits; options = options }) run
BatchesOrder _ run = DoesNothing run

-- the order reads the input: a batch does, but where its limits are refused
abbrev pub ReadsPositions : Order → Type 0
ReadsPositions (Batch goal limits options) = fault_of limits ≡ None
ReadsPositions _ = ⊥

-- standard error may be told more than why a run has no answer: by a batch, of each of its lines that is refused or over
abbrev pub TellsOfLines : Order → Type 0
TellsOfLines (Batch goal limits options) = ⊤
TellsOfLines _ = ⊥
