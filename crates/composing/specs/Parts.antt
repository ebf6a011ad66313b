-- The steps of the writing of a whole solution.
use Rattle.std.specs.Prelude.{◌≡◌, ◌⊎◌, ◌+◌, ◌<◌, ◌≤◌, ◌++◌, ℕ, List, [], Bool, None, Result, Ok, Err, length, take}
use Rattle.std.specs.Io.KnownBytes.{Appends}
use Rattle.board.specs.Board.{PlainBoard}
use Rattle.rules.specs.declared.goal.Goal.{Goal}
use Rattle.rules.specs.Squares.{Ply}
use Rattle.problems.specs.Answer.{IsFewest}
use Rattle.problems.specs.Roots.{IsRoot}
use Rattle.problems.specs.declared.root.Root.{Root}
use Rattle.devices.specs.Device.{AppendsBeginning}
use Rattle.algebraic.specs.declared.naming.Notation.{Notation}
use Rattle.solution_text.specs.Telling.{TellsKey, TellsKeys}
use Rattle.solution_text.specs.WholeText.{IsWholeSolution, held_against}
use Rattle.solution_text.specs.declared.beginning.SolutionStyle.{SolutionStyle}
use Rattle.solution_text.specs.Cut.{IsCutSolution}
use Rattle.command_line.specs.declared.line.Limits.{Limits}
use Rattle.command_line.specs.declared.line.Subject.{Subject}
use Rattle.command_line.specs.declared.line.SolutionOptions.{SolutionOptions}
use Rattle.refusals.specs.Reply.{Reply, answered, refused}
use Rattle.refusals.specs.declared.refusal.Refusal.{Refusal}
use Rattle.refusals.specs.declared.refusal.Refusal.TheVariants as refusal
use Rattle.refusals.specs.Outcome.{IsSoundText}
use Rattle.endings.specs.Run.{Ending, Finishes, no_memory}
use Rattle.context.specs.Limits.{fault_of}
use Rattle.composing.specs.Claims.{Writing}
use Rattle.composing.specs.Solution.{IsPublished, IsSolutionReply, extras_of, form_of, is_sooner, symbols_of}
use Rattle.composing.specs.declared.problem.Composed.{Composed}
use Rattle.composing.specs.declared.problem.Composed.TheVariants.{Text, Told}
use Rattle.composing.specs.declared.problem.Form.TheVariants.{Whole}
use Rattle.composing.specs.declared.whole_form.WholeForm.{WholeForm}
use Rattle.composing.specs.declared.whole_form.CutOff.{CutOff}
use Rattle.composing.specs.declared.whole_form.CutOff.TheVariants.{WriteFailed, NoMemory}

-- how moves are named
abbrev pub naming : WholeForm → Notation
naming asked = record { symbols = asked.style.symbols; goal = asked.root.goal }

-- the key's play, and its lines
abbrev pub TellsLines : WholeForm → Ply → List ℕ → Type 0
TellsLines asked key text =
    TellsKey (naming asked) (held_against asked.root.board asked.root.limit asked.style.extras.set_play) asked.root.board asked.root.limit key text

-- the same of each of these keys
abbrev pub TellsAllLines : WholeForm → List Ply → List ℕ → Type 0
TellsAllLines asked keys text =
    TellsKeys (naming asked) (held_against asked.root.board asked.root.limit asked.style.extras.set_play) asked.root.board asked.root.limit keys text

-- this text was written, and nothing failed
abbrev pub WritesText : Writing → List ℕ → Type 0
WritesText w text = Appends w.before w.after text × (w.failed_after ≡ w.failed_before)

-- a beginning of this text was written, and then a write failed
abbrev pub FailsText : Writing → List ℕ → Type 0
FailsText w text = AppendsBeginning w.before w.after text × (w.failed_after ≡ w.failed_before + 1)

-- how the writing of a text ended of which this holds: for want of memory nothing is written
abbrev pub EndsText : (List ℕ → Type 0) → Writing → Result (Unit {0}) CutOff → Type 0
EndsText Is w (Ok _) = (text : List ℕ) × Is text × WritesText w text
EndsText Is w (Err WriteFailed) = (text : List ℕ) × Is text × FailsText w text
EndsText Is w (Err NoMemory) = WritesText w []

-- the lines of so many of these keys were written
abbrev pub WritesKeys : WholeForm → List Ply → ℕ → Writing → Type 0
WritesKeys asked keys i w = (text : List ℕ) × TellsAllLines asked (take i keys) text × WritesText w text

-- how the writing of all these keys ended
abbrev pub EndsKeys : WholeForm → List Ply → Writing → Result (Unit {0}) CutOff → Type 0
EndsKeys asked keys w (Ok _) = (text : List ℕ) × TellsAllLines asked keys text × WritesText w text
EndsKeys asked keys w (Err WriteFailed) = (i : ℕ) × (text : List ℕ) × TellsAllLines asked (take i keys) text × FailsText w text
EndsKeys asked keys w (Err NoMemory) = (i : ℕ) × (i < length keys) × WritesKeys asked keys i w

-- the text is that of the whole solution that is asked for
abbrev pub IsAskedWhole : WholeForm → List ℕ → Type 0
IsAskedWhole asked text = IsWholeSolution asked.style.symbols asked.root.goal asked.root.board asked.style.extras text

-- the text is the beginning of that, as far as some of the keys
abbrev pub IsAskedCut : WholeForm → List ℕ → Type 0
IsAskedCut asked text = IsCutSolution asked.style.symbols asked.root.goal asked.root.board asked.style.extras text

-- how the writing of the solution ended
abbrev pub EndsSolution : WholeForm → Writing → Result (Unit {0}) CutOff → Type 0
EndsSolution asked w (Ok _) = (text : List ℕ) × IsAskedWhole asked text × WritesText w text
EndsSolution asked w (Err WriteFailed) = (text : List ℕ) × (IsAskedWhole asked text ⊎ IsAskedCut asked text) × FailsText w text
EndsSolution asked w (Err NoMemory) = WritesText w [] ⊎ ((text : List ℕ) × IsAskedCut asked text × WritesText w text)

-- the solution is written; or the beginning of it, and behind that want of memory is told; or that alone
abbrev pub WritesAsked : WholeForm → Ending → Type 0
WritesAsked asked ending =
    ((text : List ℕ) × IsAskedWhole asked text × Finishes ending text 0)
    ⊎ ((text : List ℕ) × IsAskedCut asked text × Finishes ending (text ++ no_memory) 3)
    ⊎ Finishes ending no_memory 3

-- ---- what is composed

-- how the whole solution is told
abbrev pub style_asked : SolutionOptions → Bool → SolutionStyle
style_asked options sooner = record { symbols = symbols_of options.figurines; extras = extras_of options sooner }

-- the root is that of this position, its limit is the fewest plies, within the limit, and its whole solution is asked for
pub record IsAskedOf (goal : Goal) (b : PlainBoard) (options : SolutionOptions) (limits : Limits) (asked : WholeForm) : Type 0 where
  pub root : IsRoot asked.root
  pub for_goal : asked.root.goal ≡ goal
  pub at : asked.root.board ≡ b
  pub fewest : IsFewest goal b asked.root.limit
  pub within : asked.root.limit ≤ limits.limit
  pub taken : fault_of limits ≡ None
  pub form : form_of options ≡ Whole
  pub style : asked.style ≡ style_asked options (is_sooner asked.root.limit limits.limit)

-- the text is that of the solution, or the root's whole solution is asked for
abbrev pub IsComposed : Root → SolutionOptions → Bool → Composed → Type 0
IsComposed r options sooner (Text text) = IsPublished r.goal r.board options sooner text.items
IsComposed r options sooner (Told solved) =
    (form_of options ≡ Whole) × (solved.asked.root ≡ r) × (solved.asked.style ≡ style_asked options sooner)

-- a text is that of a reply, a whole solution is asked for as this says, and a refusal is right or is want of memory
abbrev pub Composes : (Reply → Type 0) → (WholeForm → Type 0) → Result Composed Refusal → Type 0
Composes Is IsSo (Ok (Text text)) = Is (answered text.items)
Composes Is IsSo (Ok (Told solved)) = IsSo solved.asked
Composes Is IsSo (Err why) = (why ≡ refusal.NoMemory) ⊎ Is (refused why)

-- the same at the sound position of the text
abbrev pub ComposesReply : Subject → SolutionOptions → Limits → Result Composed Refusal → Type 0
ComposesReply subject options limits result = Composes (IsSolutionReply subject options limits)
    (λ asked. (options.first ≡ None) × (b : PlainBoard) × IsSoundText subject.fen.now b × IsAskedOf subject.goal b options limits asked) result
