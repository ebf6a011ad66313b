-- Laws of answers on boards that are turned about.
use Rattle.std.specs.Prelude.{◌≡◌, ◌↔◌, ℕ, List, Contains, Option, None, Some}
use Rattle.board.specs.declared.game.Game.{Game}
use Rattle.board.specs.Board.{PlainBoard}
use Rattle.rules.specs.declared.goal.Goal.{Goal}
use Rattle.problems.specs.declared.answer.Answer.{Answer}
use Rattle.problems.specs.declared.answer.Answer.TheVariants.{Mate, NoneWithin}
use Rattle.problems.specs.Answer.{IsFewest, ForcesNothing, IsAnswer}
use Rattle.problems.specs.declared.key.Key.{Key}
use Rattle.problems.specs.Keys.{ListsKeys}
use Rattle.laws.specs.Turnings.{Turning, turned_move, IsTurned}
use Rattle.answer_laws.specs.TurnedPlay.{WhereTurned, StaysTurned, files_mirror, sides_mirror}

-- how many plies an answer names, if it names any
abbrev pub plies_told : Answer → Option ℕ
plies_told (Mate plies first) = Some plies
plies_told (NoneWithin limit) = None

-- the answers of two boards name as many plies, or both none
abbrev pub SamePlies : PlainBoard → PlainBoard → Type 0
SamePlies b c = (goal : Goal) (limit : ℕ) (x y : Answer) → IsAnswer goal b limit x → IsAnswer goal c limit y → plies_told x ≡ plies_told y

-- what a key becomes: its move is turned, and its plies stay
abbrev pub turned_key : Game → Turning → Key → Key
turned_key g t key = record { first = turned_move g t key.first; plies = key.plies }

-- the keys of c are those of b, turned
abbrev pub KeysTurned : Turning → PlainBoard → PlainBoard → Type 0
KeysTurned t b c = (goal : Goal) (limit : ℕ) (keys others : List Key) → ListsKeys goal b limit keys → ListsKeys goal c limit others
    → (other : Key) → Contains others other ↔ ((key : Key) × Contains keys key × (turned_key b.game t key ≡ other))

-- the fewest plies stay the same
abbrev pub FewestTurn : Type 0
FewestTurn = (goal : Goal) (n : ℕ) → StaysTurned (λ b. IsFewest goal b n)

-- what isn't forced is forced on no turned board
abbrev pub NothingTurns : Type 0
NothingTurns = (goal : Goal) (limit : ℕ) → StaysTurned (λ b. ForcesNothing goal b limit)

-- so the answer of a turned board names the same plies; its first move may be another one, since the order of moves isn't turned
abbrev pub AnswersTurn : Type 0
AnswersTurn = WhereTurned (λ t b c. SamePlies b c)

-- and its keys are the turned ones, each with its plies
abbrev pub KeysTurn : Type 0
KeysTurn = WhereTurned KeysTurned

-- with left and right exchanged
abbrev pub FilesMirrorAnswers : Type 0
FilesMirrorAnswers = (b c : PlainBoard) → IsTurned files_mirror b c → SamePlies b c × KeysTurned files_mirror b c

-- with White and Black exchanged, and top and bottom
abbrev pub SidesMirrorAnswers : Type 0
SidesMirrorAnswers = (b c : PlainBoard) → IsTurned sides_mirror b c → SamePlies b c × KeysTurned sides_mirror b c
