-- What is told of a position beside the program's lines, for whoever draws a board.
use Rattle.std.specs.Prelude.{◌≡◌, ◌⊎◌, ◌++◌, List, ℕ, []}
use Rattle.board.specs.declared.fault.FenFault.{FenFault}
use Rattle.board.specs.Board.{PlainBoard}
use Rattle.rules.specs.Reading.{IsSoundFault}
use Rattle.refusals.specs.Outcome.{IsSoundText}
use Rattle.refusals.specs.Reply.{Reply, refused}
use Rattle.refusals.specs.Refusal.{refusal_of_fen}

-- nothing, where the text is a sound position's; or else the refusal of its fault, and behind it a sentence, of which nothing is said here
abbrev pub IsFaultReply : List ℕ → Reply → Type 0
IsFaultReply fen reply =
    ((b : PlainBoard) × IsSoundText fen b × (reply.text ≡ []))
    ⊎ ((fault : FenFault) × IsSoundFault fen fault × ((sentence : List ℕ) × (reply.text ≡ (refused (refusal_of_fen fault)).text ++ sentence)))
