-- How the work on a reply may end.
use Rattle.std.specs.Prelude.{◌≡◌, ◌⊎◌, ⊤, ℕ, List, Result, Ok, Err}
use Rattle.board.specs.Board.{PlainBoard, IsPosition}
use Rattle.board.specs.declared.fault.FenFault.{FenFault}
use Rattle.refusals.specs.Reply.{Reply, answered, refused}
use Rattle.refusals.specs.declared.refusal.Refusal.{Refusal}
use Rattle.refusals.specs.declared.refusal.Refusal.TheVariants.{TooLong, NoMemory}
use Rattle.devices.specs.declared.transfer.InputFault.{InputFault}
use Rattle.devices.specs.declared.transfer.InputFault.TheVariants as input
use Rattle.refusals.specs.declared.reply_fault.ReplyFault.{ReplyFault}
use Rattle.refusals.specs.declared.reply_fault.ReplyFault.TheVariants.{Refused, ReadFailed}
use Rattle.board.specs.Fen.{IsFenText}
use Rattle.rules.specs.Moves.{IsLawful}
use Rattle.rules.specs.Reach.{IsSound}
use Rattle.rules.specs.Reading.{IsSoundFault}
use Rattle.rules.specs.Squares.{Ply}
use Rattle.refusals.specs.Refusal.{refusal_of_fen}

-- the text is that of this position, and the side that isn't to move is out of check
abbrev pub IsSoundText : List ℕ → PlainBoard → Type 0
IsSoundText text b = IsPosition b × IsFenText text b × IsSound b

-- at the position of this text the side to move has no lawful move: it is mated already, or stalemated
abbrev pub IsOver : List ℕ → Type 0
IsOver fen = (b : PlainBoard) × IsSoundText fen b × ((m : Ply) → IsLawful b m → ⊥)

-- what is shown at the sound position of a text, or the refusal of the text's fault
abbrev pub IsReplyAt : List ℕ → (PlainBoard → Reply → Type 0) → Reply → Type 0
IsReplyAt text Shows reply =
    ((b : PlainBoard) × IsSoundText text b × Shows b reply)
    ⊎ ((fault : FenFault) × IsSoundFault text fault × (reply ≡ refused (refusal_of_fen fault)))

-- a text is that of an answer, and a refusal is right or is want of memory
abbrev pub Gives : {B : Type 0} → (B → List ℕ) → (Reply → Type 0) → Result B Refusal → Type 0
Gives bytes Is (Ok text) = Is (answered (bytes text))
Gives bytes Is (Err refusal) = (refusal ≡ NoMemory) ⊎ Is (refused refusal)

-- the same, where a failed read says nothing
abbrev pub GivesIfRead : {B : Type 0} → (B → List ℕ) → (Reply → Type 0) → Result B ReplyFault → Type 0
GivesIfRead bytes Is (Ok text) = Is (answered (bytes text))
GivesIfRead bytes Is (Err (Refused refusal)) = (refusal ≡ NoMemory) ⊎ Is (refused refusal)
GivesIfRead bytes Is (Err ReadFailed) = ⊤

-- how many reads failed
abbrev pub reads_failed : {B : Type 0} → Result B ReplyFault → ℕ
reads_failed (Err ReadFailed) = 1
reads_failed _ = 0

-- what a fault of the input is of a reply
abbrev pub reply_fault_of : InputFault → ReplyFault
reply_fault_of input.ReadFailed = ReadFailed
reply_fault_of input.TooLong = Refused TooLong
reply_fault_of input.NoMemory = Refused NoMemory
