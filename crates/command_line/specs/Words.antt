-- The order that the words of the command line mean: what `clap` finds in them, read as an order.
use Rattle.std.specs.Prelude.{◌≡◌, ◌≢◌, ◌↔◌, ◌⊎◌, ◌<◌, ◌*◌, ◌-◌, ◌^◌, ℕ, List, [], Option, None, Some, IsSomeAnd, IsTrue, MatchOption, codes, min}
use Rattle.std.specs.Str.Parse.{IsNumeral, digits_value, without_leading_plus}
use Rattle.clap.specs.Words.{Row, Text, fault_of, first_of, one_of, subcommand_of}
use Rattle.rules.specs.declared.goal.Goal.{Goal}
use Rattle.rules.specs.declared.goal.Goal.TheVariants.{Mate, MateOrStale}
use Rattle.command_line.specs.Program.{program}
use Rattle.command_line.specs.declared.line.Line.{Line}
use Rattle.command_line.specs.declared.line.Limits.{Limits}
use Rattle.command_line.specs.declared.line.Drawing.{Drawing}
use Rattle.command_line.specs.declared.line.Subject.{Subject}
use Rattle.command_line.specs.declared.line.NamedMove.{NamedMove}
use Rattle.command_line.specs.declared.line.BatchOptions.{BatchOptions}
use Rattle.command_line.specs.declared.line.SolutionOptions.{SolutionOptions}
use Rattle.command_line.specs.declared.line.Action.{Action}
use Rattle.command_line.specs.declared.line.Action.TheVariants.{Solve, Keys, Tree, Check, Moves}
use Rattle.command_line.specs.declared.line.Order.{Order}
use Rattle.command_line.specs.declared.line.Order.TheVariants.{One, Batch, Verify, Certify, After, TreeAfter, Solution, Show}

-- the text is the number: decimal digits, perhaps after a plus, below 2^32
abbrev pub IsNumber : Text → ℕ → Type 0
IsNumber text n = (IsNumeral 10 (without_leading_plus text) × (digits_value 10 (without_leading_plus text) < 2 ^ 32))
    × (n ≡ digits_value 10 (without_leading_plus text))

-- the text that was found for `id` is the number
abbrev pub HasNumber : Text → List Row → ℕ → Type 0
HasNumber id rows n = (text : Text) × (one_of id rows ≡ Some text) × IsNumber text n

-- the plies of a mate in so many moves; more than 32 bits hold are the greatest of these numbers
abbrev pub plies_of : ℕ → ℕ
plies_of moves = min (2 * moves - 1) 4294967295

-- the limit is that of `--limit`, or where `--mate` is given, and `--limit` is not, the plies of so many moves
abbrev pub HasLimit : List Row → ℕ → Type 0
HasLimit rows n = MatchOption (first_of (codes "mate") rows) (HasNumber (codes "limit") rows n)
    (λ _. (first_of (codes "limit") rows ≡ None) × ((moves : ℕ) × HasNumber (codes "mate") rows moves × (n ≡ plies_of moves)))

-- what was found for the limits' names
pub record HasLimits (rows : List Row) (limits : Limits) : Type 0 where
  pub limit : HasLimit rows limits.limit
  pub workers : HasNumber (codes "workers") rows limits.workers
  pub slots : HasNumber (codes "slots") rows limits.slots

-- the word of a goal
abbrev pub goal_word : Goal → Text
goal_word Mate = codes "mate"
goal_word MateOrStale = codes "stale"

-- the word that was found for `goal` is the goal's
abbrev pub HasGoal : List Row → Goal → Type 0
HasGoal rows goal = first_of (codes "goal") rows ≡ Some (goal_word goal)

-- the option of that name, which takes no value, was given
abbrev pub IsGiven : Text → List Row → Type 0
IsGiven id rows = first_of id rows ≡ Some (codes "true")

-- what was found of how a board is drawn
pub record HasDrawing (rows : List Row) (drawing : Drawing) : Type 0 where
  pub svg : IsTrue drawing.svg ↔ IsGiven (codes "svg") rows
  pub unicode : IsTrue drawing.unicode ↔ IsGiven (codes "unicode") rows
  pub black : IsTrue drawing.black ↔ IsGiven (codes "black") rows

-- the command of that name with the values that were found for it
abbrev pub MeansAction : Text → List Row → Action → Type 0
MeansAction name rows (Solve goal limits) = (name ≡ codes "solve") × HasGoal rows goal × HasLimits rows limits
MeansAction name rows (Keys goal limits) = (name ≡ codes "keys") × HasGoal rows goal × HasLimits rows limits
MeansAction name rows (Tree goal limits) = (name ≡ codes "tree") × HasGoal rows goal × HasLimits rows limits × (first_of (codes "first") rows ≡ None)
MeansAction name rows (Check goal) = (name ≡ codes "check") × HasGoal rows goal
MeansAction name rows Moves = name ≡ codes "moves"

-- the command at the position that was found for it
abbrev pub HasLine : Text → List Row → Line → Type 0
HasLine name rows line = (first_of (codes "FEN") rows ≡ Some line.fen.now) × MeansAction name rows line.action

-- what was found for the option of that name: its number, or that none is given
abbrev pub HasNumberIfGiven : Text → List Row → Option ℕ → Type 0
HasNumberIfGiven id rows given = MatchOption given ((n : ℕ) → HasNumber id rows n → ⊥) (HasNumber id rows)

-- what was found for the options of a batch: whether the positions are written too, whether keys are, and as JSON, how many lines there are, and are left out
pub record HasBatchOptions (rows : List Row) (options : BatchOptions) : Type 0 where
  pub echo : IsTrue options.echo ↔ IsGiven (codes "echo") rows
  pub keys : IsTrue options.keys ↔ IsGiven (codes "keys") rows
  pub json : IsTrue options.json ↔ IsGiven (codes "json") rows
  pub lines : HasNumberIfGiven (codes "lines") rows options.lines
  pub skip : HasNumberIfGiven (codes "skip") rows options.skip

-- what was found of what a solution tells
pub record HasSolutionOptions (rows : List Row) (options : SolutionOptions) : Type 0 where
  pub set_play : IsTrue options.set_play ↔ IsGiven (codes "set") rows
  pub tries : IsTrue options.tries ↔ IsGiven (codes "tries") rows
  pub figurines : IsTrue options.figurines ↔ IsGiven (codes "figurines") rows
  pub short : IsTrue options.short ↔ IsGiven (codes "short") rows
  pub json : IsTrue options.json ↔ IsGiven (codes "json") rows
  pub svg : IsTrue options.svg ↔ IsGiven (codes "svg") rows
  pub first : MatchOption options.first (first_of (codes "first") rows ≡ None) (λ name. first_of (codes "first") rows ≡ Some name.now)

-- what was found for the position and for the goal
abbrev pub HasSubject : List Row → Subject → Type 0
HasSubject rows subject = (first_of (codes "FEN") rows ≡ Some subject.fen.now) × HasGoal rows subject.goal

-- what was found for the position and for the move
abbrev pub HasPlayed : List Row → NamedMove → Type 0
HasPlayed rows played = (first_of (codes "FEN") rows ≡ Some played.fen.now) × (first_of (codes "MOVE") rows ≡ Some played.name.now)

-- what was found for the position and for the first move of its tree
abbrev pub HasFirst : List Row → NamedMove → Type 0
HasFirst rows played = (first_of (codes "FEN") rows ≡ Some played.fen.now) × (first_of (codes "first") rows ≡ Some played.name.now)

-- the command of that name with what was found for it
abbrev pub MeansFound : Text → List Row → Order → Type 0
MeansFound name rows (One line) = HasLine name rows line
MeansFound name rows (Batch goal limits options) = (name ≡ codes "batch") × HasGoal rows goal × HasLimits rows limits × HasBatchOptions rows options
MeansFound name rows (Verify subject) = (name ≡ codes "verify") × HasSubject rows subject
MeansFound name rows (Certify subject limits) = (name ≡ codes "certify") × HasSubject rows subject × HasLimits rows limits
MeansFound name rows (After played) = (name ≡ codes "after") × HasPlayed rows played
MeansFound name rows (TreeAfter played goal limits) = (name ≡ codes "tree") × HasFirst rows played × HasGoal rows goal × HasLimits rows limits
MeansFound name rows (Solution subject limits options) =
    (name ≡ codes "solution") × HasSubject rows subject × HasLimits rows limits × HasSolutionOptions rows options
MeansFound name rows (Show fen drawing) = (name ≡ codes "show") × (first_of (codes "FEN") rows ≡ Some fen.now) × HasDrawing rows drawing

-- a command was found, and it is the order
abbrev pub HasOrder : Option (Text × List Row) → Order → Type 0
HasOrder found order = IsSomeAnd found (λ f. MeansFound f.0 f.1 order)

-- the words, of which the first is the program's name, mean the order: `clap` finds no fault in them, and what it finds is the order
pub record MeansOrder (words : List Text) (order : Order) : Type 0 where
  pub faultless : fault_of program words ≡ []
  pub found : HasOrder (subcommand_of program words) order

-- the words mean no order: `clap` finds a fault in them, or what it finds is none
abbrev pub MeansNoOrder : List Text → Type 0
MeansNoOrder words = (fault_of program words ≢ []) ⊎ ((order : Order) → MeansOrder words order → ⊥)

-- the word that asks for a sign of life
abbrev pub progress_word : Text
progress_word = codes "--progress"
