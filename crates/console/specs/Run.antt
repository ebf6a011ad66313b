-- A run of a line.
use Rattle.std.specs.Prelude.{◌≡◌, ◌⊎◌, ◌↔◌, ◌<◌, ◌≤◌, []}
use Rattle.devices.specs.Input.{OfInput}
use Rattle.replies.specs.Output.{IsOutput, input_of}
use Rattle.refusals.specs.Reply.{Reply}
use Rattle.command_line.specs.declared.line.Line.{Line}
use Rattle.endings.specs.Run.{Run, Writes, WritesBeginning, no_memory, failures_of}

-- some reply to the line with the input that it reads is so
abbrev pub HasReply : Line → Run → (Reply → Type 0) → Type 0
HasReply line run Is =
    OfInput (input_of line.action run.input) (λ input. (reply : Reply) × IsOutput line input reply × Is reply)

-- the run is one of the line
pub record RunsLine (line : Line) (run : Run) : Type 0 where
  -- no other status comes, and so never 2
  pub status_known : (run.ending.status ≡ 0) ⊎ (run.ending.status ≡ 1) ⊎ (run.ending.status ≡ 3) ⊎ (run.ending.status ≡ 4)
  -- 0 and 1: the status and the output are the line's
  pub answered : (run.ending.status ≡ 0) ⊎ (run.ending.status ≡ 1)
      → HasReply line run (λ reply. (run.ending.status ≡ reply.status) × Writes run.ending reply.text)
  -- 3: want of memory, and nothing else is written
  pub out_of_memory : run.ending.status ≡ 3 → Writes run.ending no_memory
  -- 4: exactly where a read or a write failed
  pub failed : (run.ending.status ≡ 4) ↔ (0 < failures_of run)
  -- and nothing is tried again
  pub once : failures_of run ≤ 1
  -- after a failed read nothing is written
  pub failed_read : 0 < run.failed_reads → Writes run.ending []
  -- after a failed write a beginning of the output, or of the line for want of memory
  pub failed_write : 0 < run.ending.failed_writes
      → WritesBeginning run.ending no_memory ⊎ HasReply line run (λ reply. WritesBeginning run.ending reply.text)
