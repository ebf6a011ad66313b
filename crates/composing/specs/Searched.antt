-- A search at one position, with its table.
use Rattle.std.specs.Prelude.{Result}
use Rattle.rules.specs.declared.goal.Goal.{Goal}
use Rattle.board.specs.Board.{PlainBoard}
use Rattle.problems.specs.Answer.{IsAnswer}
use Rattle.command_line.specs.declared.line.Limits.{Limits}
use Rattle.refusals.specs.declared.refusal.Refusal.{Refusal}
use Rattle.context.specs.Limits.{FindsWithin}
use Rattle.composing.specs.declared.searched.Searched.{Searched}

-- the answer within the limits, and its table
abbrev pub SolvesOver : Goal → PlainBoard → Limits → Result Searched Refusal → Type 0
SolvesOver goal b limits result = FindsWithin limits (λ found. IsAnswer goal b limits.limit found.answer) result
