-- Laws of runs of a line.
use Rattle.std.specs.Prelude.{◌≡◌, ◌⊎◌, ℕ, List, Some}
use Rattle.command_line.specs.declared.line.Line.{Line}
use Rattle.replies.specs.Output.{input_of}
use Rattle.endings.specs.Run.{Run, Writes}
use Rattle.console.specs.Run.{RunsLine}

-- the run is one of the line, answers or refuses it, and what the line reads of its input is known
pub record RunsToEnd (line : Line) (input : List ℕ) (run : Run) : Type 0 where
  pub runs : RunsLine line run
  pub knows : input_of line.action run.input ≡ Some input
  pub status : (run.ending.status ≡ 0) ⊎ (run.ending.status ≡ 1)

-- two runs of a line that read the same, and for which neither memory was wanting nor a read or a write failed, end with one status and write one text
abbrev pub OneRun : Type 0
OneRun = (line : Line) (input : List ℕ) (x y : Run) → RunsToEnd line input x → RunsToEnd line input y
    → (x.ending.status ≡ y.ending.status) × ((text : List ℕ) × Writes x.ending text × Writes y.ending text)
