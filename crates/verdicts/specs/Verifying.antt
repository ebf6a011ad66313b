-- A run of `verify`.
use Rattle.std.specs.Prelude.{◌≡◌, ◌⊎◌, []}
use Rattle.board.specs.Board.{PlainBoard}
use Rattle.command_line.specs.declared.line.Subject.{Subject}
use Rattle.devices.specs.Input.{OfInput}
use Rattle.refusals.specs.Reply.{Reply}
use Rattle.refusals.specs.Outcome.{IsSoundText}
use Rattle.verdicts.specs.Verdict.{IsVerdict}
use Rattle.endings.specs.Run.{EndsUnread, Run, Finishes, GivesUp}

-- the reply to the certificate of the input is written, with its status
abbrev pub WritesVerdict : Subject → Run → Type 0
WritesVerdict subject run = (run.failed_reads ≡ 0)
    × OfInput run.input (λ input. (reply : Reply) × IsVerdict subject input reply × Finishes run.ending reply.text reply.status)

-- the run is one of the certificate: its reply is written, or the line for want of memory, or a read failed and nothing was written
abbrev pub RunsVerify : Subject → Run → Type 0
RunsVerify subject run = WritesVerdict subject run ⊎ GivesUp run ⊎ EndsUnread run []

-- the certificate is read: the position that it is about is sound
abbrev pub MayReadAbout : Subject → Type 0
MayReadAbout subject = (b : PlainBoard) × IsSoundText subject.fen.now b
