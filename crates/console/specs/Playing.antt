-- A run of `after`, and of the tree of a first move.
use Rattle.std.specs.Prelude.{◌≡◌, ◌⊎◌}
use Rattle.command_line.specs.declared.line.NamedMove.{NamedMove}
use Rattle.refusals.specs.Reply.{Reply}
use Rattle.replies.specs.Playing.{IsAfterReply}
use Rattle.endings.specs.Run.{Ending, Run, Finishes, WritesReply, no_memory}
use Rattle.rules.specs.declared.goal.Goal.{Goal}
use Rattle.command_line.specs.declared.line.Limits.{Limits}
use Rattle.replies.specs.First.{IsFirstReply}

-- the position after the move is written, or why there is none, with its status; or the line for want of memory
abbrev pub WritesAfter : NamedMove → Ending → Type 0
WritesAfter played ending =
    ((reply : Reply) × IsAfterReply played.fen.now played.name.now reply × Finishes ending reply.text reply.status) ⊎ Finishes ending no_memory 3

-- the run is one of a move that is played, which reads nothing
abbrev pub RunsAfter : NamedMove → Run → Type 0
RunsAfter played run = (run.failed_reads ≡ 0) × WritesAfter played run.ending

-- the run is one of the tree of a first move, which reads nothing
abbrev pub RunsFirst : NamedMove → Goal → Limits → Run → Type 0
RunsFirst played goal limits run = (run.failed_reads ≡ 0) × WritesReply (IsFirstReply played goal limits) run.ending
