-- What `solution` writes.
use Rattle.std.specs.Prelude.{◌≡◌, ◌⊎◌, ◌≤◌, ◌+◌, ◌++◌, ◌/◌, ℕ, nat_lt, List, Some, None, slice_get, Bool, true, false, MatchOption, codes, if◌then◌else◌}
use Rattle.std.specs.Fmt.{decimal}
use Rattle.std.specs.declared.alloc.Global.{Global}
use Rattle.board.specs.Board.{PlainBoard}
use Rattle.board.specs.Fen.{IsFenText}
use Rattle.board.specs.declared.game.Side.TheVariants.{White}
use Rattle.rules.specs.declared.goal.Goal.{Goal}
use Rattle.rules.specs.declared.goal.Goal.TheVariants.{Mate, MateOrStale}
use Rattle.rules.specs.MoveText.{move_text}
use Rattle.rules.specs.Moves.{IsLawful}
use Rattle.rules.specs.Squares.{Ply}
use Rattle.problems.specs.Answer.{IsFewest, ForcesNothing}
use Rattle.problems.specs.declared.root.Root.{Root}
use Rattle.algebraic.specs.declared.naming.Notation.{Notation}
use Rattle.algebraic.specs.declared.symbols.Symbols.{Symbols}
use Rattle.algebraic.specs.declared.symbols.Symbols.TheVariants.{Letters, Figurines}
use Rattle.solutions.specs.declared.extras.Extras.{Extras}
use Rattle.solutions.specs.declared.solution.Solution.{Solution}
use Rattle.solutions.specs.Lines.{ListsContinuations}
use Rattle.solutions.specs.Solutions.{IsSolution}
use Rattle.solution_text.specs.Text.{AreTexts, IsNumbered, IsSolutionText}
use Rattle.solution_text.specs.WholeText.{IsFirstSolution, IsWholeSolution}
use Rattle.solution_text.specs.Cut.{IsCutSolution}
use Rattle.solution_text.specs.Data.{none_data, solution_data}
use Rattle.command_line.specs.declared.line.Limits.{Limits}
use Rattle.command_line.specs.declared.line.Subject.{Subject}
use Rattle.command_line.specs.declared.line.SolutionOptions.{SolutionOptions}
use Rattle.composing.specs.declared.problem.Form.{Form}
use Rattle.composing.specs.declared.problem.Form.TheVariants.{Whole, Short, Data, Picture}
use Rattle.diagrams.specs.Pictures.{captioned_picture}
use Rattle.refusals.specs.Reply.{Reply, answered, refused}
use Rattle.refusals.specs.declared.refusal.Refusal.TheVariants.{Move}
use Rattle.answer_texts.specs.Answers.{none_text}
use Rattle.refusals.specs.Outcome.{IsReplyAt, IsSoundText}
use Rattle.context.specs.Shown.{ShowsWithin}
use Rattle.context.specs.Limits.{fault_of}
use Rattle.context.specs.Naming.{NamesNone}
use Rattle.endings.specs.Run.{Ending, Finishes, Run, WritesReply, no_memory}

-- what is asked for beside the keys, and whether in more moves than the goal takes
abbrev pub extras_of : SolutionOptions → Bool → Extras
extras_of options sooner = record { set_play = options.set_play; tries = options.tries; sooner = sooner }

-- so many plies take fewer moves of the attacker than the limit has
abbrev pub is_sooner : ℕ → ℕ → Bool
is_sooner plies limit = nat_lt ((plies + 1) / 2) ((limit + 1) / 2)

-- by which symbols units are named
abbrev pub symbols_of : Bool → Symbols
symbols_of true = Figurines
symbols_of false = Letters

-- how moves are named
abbrev pub notation_of : Goal → SolutionOptions → Notation
notation_of goal options = record { symbols = symbols_of options.figurines; goal = goal }

-- the form that is asked for
abbrev pub form_of : SolutionOptions → Form
form_of options = if options.json then Data else (if options.svg then Picture else (if options.short then Short else Whole))

-- the stipulation: `#` for mate, or `=` where stalemate is as good, and in how many moves
abbrev pub stipulation : Goal → ℕ → List ℕ
stipulation Mate plies = codes "#" ++ decimal ((plies + 1) / 2)
stipulation MateOrStale plies = codes "=" ++ decimal ((plies + 1) / 2)

-- the picture of the board as White sees it, with the stipulation and all keys, as ` 1.Kc5`
abbrev pub IsDiagram : Notation → PlainBoard → List ℕ → Type 0
IsDiagram notation b text =
    (plies : ℕ) × IsFewest notation.goal b plies × (keys : List Ply) × ListsContinuations notation.goal b plies keys
    × (named : List ℕ) × AreTexts (IsNumbered notation 1 b) keys named
    × (text ≡ captioned_picture (record { board = b; below = White }) None (stipulation notation.goal plies) named)

-- the text is that of the solution of the position, whole, in its short form, that as data behind the position's text, or its diagram
abbrev pub IsInForm : Form → Goal → PlainBoard → SolutionOptions → Bool → List ℕ → Type 0
IsInForm Whole goal b options sooner text = IsWholeSolution (symbols_of options.figurines) goal b (extras_of options sooner) text
IsInForm Short goal b options sooner text =
    (solution : Solution Global) × IsSolution goal b (extras_of options sooner) solution × IsSolutionText (notation_of goal options) b sooner solution text
IsInForm Picture goal b options sooner text = IsDiagram (notation_of goal options) b text
IsInForm Data goal b options sooner text =
    (fen : List ℕ) × IsFenText fen b
    × ((solution : Solution Global) × IsSolution goal b (extras_of options sooner) solution × (text ≡ solution_data fen goal sooner solution))

-- the text says that nothing is forced within the limit
abbrev pub SaysNone : Bool → Goal → PlainBoard → ℕ → List ℕ → Type 0
SaysNone false goal b limit text = text ≡ none_text limit
SaysNone true goal b limit text = (fen : List ℕ) × IsFenText fen b × (text ≡ none_data fen goal)

-- it is shown that nothing is
abbrev pub ShowsNoSolution : Bool → Goal → PlainBoard → ℕ → Reply → Type 0
ShowsNoSolution json goal b limit reply = (text : List ℕ) × SaysNone json goal b limit text × (reply ≡ answered text)

-- the text is that of the solution of the position, in the form that is asked for
abbrev pub IsPublished : Goal → PlainBoard → SolutionOptions → Bool → List ℕ → Type 0
IsPublished goal b options sooner text = IsInForm (form_of options) goal b options sooner text

-- the solution, where the goal is forced in some number of plies up to the limit, or that it is in none
abbrev pub ShowsPublished : Goal → PlainBoard → SolutionOptions → ℕ → Reply → Type 0
ShowsPublished goal b options limit reply =
    ((plies : ℕ) × (plies ≤ limit) × IsFewest goal b plies × ((text : List ℕ) × IsPublished goal b options (is_sooner plies limit) text × (reply ≡ answered text)))
    ⊎ (ForcesNothing goal b limit × ShowsNoSolution options.json goal b limit reply)

-- the same, or the refusal of the first value that is outside its limits
abbrev pub ShowsSolution : Goal → PlainBoard → SolutionOptions → Limits → Reply → Type 0
ShowsSolution goal b options limits reply = ShowsWithin limits (ShowsPublished goal b options limits.limit) reply

-- ---- a first move that is named

-- the play behind this first move, where the goal is forced in some number of plies up to the limit, or that it is in none
abbrev pub ShowsFirstPlay : Symbols → Goal → PlainBoard → ℕ → Ply → Reply → Type 0
ShowsFirstPlay symbols goal b limit m reply =
    ((plies : ℕ) × (plies ≤ limit) × IsFewest goal b plies × ((text : List ℕ) × IsFirstSolution symbols goal b m text × (reply ≡ answered text)))
    ⊎ (ForcesNothing goal b limit × (reply ≡ answered (none_text limit)))

-- the same, or the refusal of the first value that is outside its limits
abbrev pub ShowsFirstWithin : Symbols → Goal → PlainBoard → Limits → Ply → Reply → Type 0
ShowsFirstWithin symbols goal b limits m reply = ShowsWithin limits (ShowsFirstPlay symbols goal b limits.limit m) reply

-- so it is of the root's move of this number
abbrev pub ShowsFirstOf : Symbols → Root → ℕ → Limits → Reply → Type 0
ShowsFirstOf symbols r job limits reply =
    (m : Ply) → slice_get r.moves.items job ≡ Some m → ShowsFirstWithin symbols r.goal r.board limits m reply

-- so it is of the lawful move of this name, or no lawful move has it
abbrev pub ShowsFirstNamed : Symbols → Goal → PlainBoard → Limits → List ℕ → Reply → Type 0
ShowsFirstNamed symbols goal b limits name reply =
    ((m : Ply) × IsLawful b m × (move_text m ≡ name) × ShowsFirstWithin symbols goal b limits m reply) ⊎ (NamesNone b name × (reply ≡ refused Move))

-- the play behind the first move that is named, where one is, or the solution
abbrev pub ShowsComposed : Goal → PlainBoard → SolutionOptions → Limits → Reply → Type 0
ShowsComposed goal b options limits reply =
    MatchOption options.first (ShowsSolution goal b options limits reply) (λ name. ShowsFirstNamed (symbols_of options.figurines) goal b limits name.now reply)

-- the same at the sound position of the text, or the refusal of the text's fault
abbrev pub IsSolutionReply : Subject → SolutionOptions → Limits → Reply → Type 0
IsSolutionReply subject options limits reply = IsReplyAt subject.fen.now (λ b. ShowsComposed subject.goal b options limits) reply

-- in the whole form: a solution that was cut off before its last key is written, and want of memory is told behind it
abbrev pub WritesCut : Subject → SolutionOptions → Limits → Ending → Type 0
WritesCut subject options limits ending =
    (options.first ≡ None) × (form_of options ≡ Whole) × (fault_of limits ≡ None)
    × (b : PlainBoard) × IsSoundText subject.fen.now b
    × (plies : ℕ) × (plies ≤ limits.limit) × IsFewest subject.goal b plies
    × (text : List ℕ) × IsCutSolution (symbols_of options.figurines) subject.goal b (extras_of options (is_sooner plies limits.limit)) text
    × Finishes ending (text ++ no_memory) 3

-- a solution is written, or as much of it as memory sufficed for
abbrev pub WritesSolution : Subject → SolutionOptions → Limits → Ending → Type 0
WritesSolution subject options limits ending = WritesReply (IsSolutionReply subject options limits) ending ⊎ WritesCut subject options limits ending

-- the run is one of a solution, which reads nothing
abbrev pub RunsSolution : Subject → SolutionOptions → Limits → Run → Type 0
RunsSolution subject options limits run = (run.failed_reads ≡ 0) × WritesSolution subject options limits run.ending
