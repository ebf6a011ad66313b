-- How the work on a reply may end.
use Rattle.std.specs.Prelude.{ℕ, List, Option, Result}
use Rattle.devices.specs.Input.{OfInput}
use Rattle.command_line.specs.declared.line.Line.{Line}
use Rattle.refusals.specs.declared.reply_fault.ReplyFault.{ReplyFault}
use Rattle.refusals.specs.Outcome.{GivesIfRead}
use Rattle.replies.specs.Output.{input_of, IsOutput}

-- a reply to the line with the input that it reads
abbrev pub GivesReply : {B : Type 0} → (B → List ℕ) → Line → Option (List ℕ) → Result B ReplyFault → Type 0
GivesReply bytes line known result =
    OfInput (input_of line.action known) (λ input. GivesIfRead bytes (IsOutput line input) result)
