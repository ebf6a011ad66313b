-- What a line of a batch asks, and what is found for it.
use Rattle.std.specs.Prelude.{◌≡◌, ◌↔◌, ◌*◌, ◌-◌, ◌<◌, ℕ, Bool, true, false, List, ◌++◌, length, Option, None, Some, MatchOption, IsTrue, All, codes}
use Rattle.std.specs.Fmt.{decimal}
use Rattle.board.specs.Board.{PlainBoard}
use Rattle.rules.specs.declared.goal.Goal.{Goal}
use Rattle.problems.specs.declared.answer.Answer.TheVariants.{Mate, NoneWithin}
use Rattle.problems.specs.Answer.{IsAnswer}
use Rattle.problems.specs.Keys.{ListsKeys}
use Rattle.command_line.specs.declared.line.Limits.{Limits}
use Rattle.batch_texts.specs.Fields.{position_of}
use Rattle.batch_texts.specs.declared.asked.Asked.{Asked}
use Rattle.batch_texts.specs.declared.asked.Found.{Found}
use Rattle.batch_texts.specs.declared.asked.Found.TheVariants.{Answer, Keys}

-- behind the position's text the line says in how many moves there is a mate, as ` ; dm 3`
abbrev pub SaysMoves : List ℕ → List ℕ → ℕ → Type 0
SaysMoves said fen moves = (moves < 100) × (said ≡ fen ++ (codes " ; dm " ++ decimal moves))

-- the text of a line's position and the moves that the line says; a line that says none is that text
abbrev pub IsSplitIn : List ℕ → Asked → Type 0
IsSplitIn said asked = MatchOption asked.moves
    ((asked.fen.now ≡ said) × ((fen : List ℕ) (moves : ℕ) → SaysMoves said fen moves → ⊥))
    (SaysMoves said asked.fen.now)

-- a line's position and the moves that it says; of a FEN of six fields the position is the first two
abbrev pub IsAskedIn : List ℕ → Asked → Type 0
IsAskedIn said asked = (split : Asked) × IsSplitIn said split × (asked.fen.now ≡ position_of split.fen.now) × (asked.moves ≡ split.moves)

-- the plies within which a line is searched: those of the moves that it says, or else those of the batch
abbrev pub limit_of : ℕ → Option ℕ → ℕ
limit_of limit None = limit
limit_of limit (Some moves) = 2 * moves - 1

-- the limits with other plies
abbrev pub with_plies : Limits → ℕ → Limits
with_plies limits plies = record { limit = plies; workers = limits.workers; slots = limits.slots }

-- the keys of a position where keys are asked for, and else its answer
abbrev pub IsFoundAt : Bool → Goal → PlainBoard → ℕ → Found → Type 0
IsFoundAt true goal b limit (Keys keys) = ListsKeys goal b limit keys.items
IsFoundAt false goal b limit (Answer answer) = IsAnswer goal b limit answer
IsFoundAt _ goal b limit _ = ⊥

-- the fewest plies of what was found are these; all keys within them take them
abbrev pub TakesPlies : Found → ℕ → Type 0
TakesPlies (Answer (Mate fewest first)) plies = fewest ≡ plies
TakesPlies (Answer (NoneWithin limit)) plies = ⊥
TakesPlies (Keys keys) plies = (0 < length keys.items) × All (λ key. key.plies ≡ plies) keys.items

-- whether what was found takes the moves that a line says, where it says some
abbrev pub IsJudged : Option ℕ → Found → Option Bool → Type 0
IsJudged None found agrees = agrees ≡ None
IsJudged (Some moves) found None = ⊥
IsJudged (Some moves) found (Some agrees) = IsTrue agrees ↔ TakesPlies found (2 * moves - 1)
