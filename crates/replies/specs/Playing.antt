-- What is written for a move that is to be played.
use Rattle.std.specs.Prelude.{◌≡◌, ◌⊎◌, List, ℕ}
use Rattle.board.specs.Board.{PlainBoard}
use Rattle.board.specs.Fen.{IsFenText}
use Rattle.rules.specs.MoveText.{move_text}
use Rattle.rules.specs.Moves.{IsMove}
use Rattle.rules.specs.Squares.{Ply}
use Rattle.refusals.specs.Outcome.{IsReplyAt}
use Rattle.refusals.specs.Reply.{Reply, answered, refused, line_of}
use Rattle.refusals.specs.declared.refusal.Refusal.TheVariants.{Move}
use Rattle.context.specs.Naming.{NamesNone}

-- the text, on a line, of the position after the lawful move of this name, or that no lawful move has it
abbrev pub ShowsAfter : PlainBoard → List ℕ → Reply → Type 0
ShowsAfter b name reply =
    ((m : Ply) × (move_text m ≡ name) × ((q : PlainBoard) × IsMove b m q × ((text : List ℕ) × IsFenText text q × (reply ≡ answered (line_of text)))))
    ⊎ (NamesNone b name × (reply ≡ refused Move))

-- the same at the sound position of a text, or the refusal of the text's fault
abbrev pub IsAfterReply : List ℕ → List ℕ → Reply → Type 0
IsAfterReply fen name reply = IsReplyAt fen (λ b. ShowsAfter b name) reply
