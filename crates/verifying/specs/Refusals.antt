-- What is told of a text whose certificate was verified, or refused.
use Rattle.std.specs.Prelude.{ℕ, ◌≡◌, ◌+◌, ◌<◌, ⊤, List, [], ◌∷◌, ◌++◌, length, All, Option, None, Some, Result, Ok, Err}
use Rattle.std.specs.List.{flat_map}
use Rattle.rules.specs.declared.goal.Goal.{Goal}
use Rattle.problems.specs.declared.answer.Answer.{Answer}
use Rattle.input_lines.specs.Lines.{HasNoFeed}
use Rattle.devices.specs.declared.transfer.InputFault.{InputFault}
use Rattle.devices.specs.declared.transfer.InputFault.TheVariants as input
use Rattle.verifying.specs.declared.fault.Fault.{Fault}
use Rattle.verifying.specs.declared.fault.Fault.TheVariants.{Answer as IsAnswerFault, Claim, TooLong, NoMemory, ReadFailed}
use Rattle.verifying.specs.declared.words.Word.{Word}
use Rattle.verifying.specs.FirstLine.{first_line, HasFirstLine, IsInRange}
use Rattle.verifying.specs.Words.{words_line}

-- the fault of each fault of the input
abbrev pub fault_of_input : InputFault → Fault
fault_of_input input.ReadFailed = ReadFailed
fault_of_input input.TooLong = TooLong
fault_of_input input.NoMemory = NoMemory

-- how many reads failed
abbrev pub reads_lost : Result Answer Fault → ℕ
reads_lost (Err ReadFailed) = 1
reads_lost _ = 0

-- a line is the text of words
abbrev pub IsClaimLine : List ℕ → Type 0
IsClaimLine line = (words : List Word) × (line ≡ words_line words)

-- the lines so far: none, or the answer's and lines of words
abbrev pub AreLines : Goal → Option Answer → List (List ℕ) → Type 0
AreLines goal None lines = lines ≡ []
AreLines goal (Some answer) lines = IsInRange answer × ((claims : List (List ℕ)) × (lines ≡ first_line goal answer ∷ claims) × All IsClaimLine claims)

-- lines, each with its feed
abbrev pub fed : List (List ℕ) → List ℕ
fed lines = flat_map (λ line. line ++ 10 ∷ []) lines

-- the text begins with lines that are in the grammar, the answer's among them, and the next is number n
abbrev pub IsReadUpTo : Goal → List ℕ → ℕ → Type 0
IsReadUpTo goal text n = (answer : Answer) × (lines : List (List ℕ)) × (rest : List ℕ) × AreLines goal (Some answer) lines × (text ≡ fed lines ++ rest) × (n ≡ length lines + 1)

-- behind lines more than 8,192 bytes come without a feed
abbrev pub HasLongLine : List ℕ → Type 0
HasLongLine text = (lines : List (List ℕ)) × (line : List ℕ) × (rest : List ℕ) × HasNoFeed line × (8192 < length line) × (text ≡ fed lines ++ (line ++ rest))

-- The answer is that of the text's first line. Of a fault it is told that a line is too long, or that the lines in front of the one that is refused are in the grammar and as many as its number says; of the others nothing is told here
abbrev pub TellsOf : Goal → List ℕ → Result Answer Fault → Type 0
TellsOf goal text (Ok answer) = HasFirstLine goal answer text
TellsOf goal text (Err IsAnswerFault) = ⊤
TellsOf goal text (Err (Claim n)) = IsReadUpTo goal text n
TellsOf goal text (Err TooLong) = HasLongLine text
TellsOf goal text (Err NoMemory) = ⊤
TellsOf goal text (Err ReadFailed) = ⊤
