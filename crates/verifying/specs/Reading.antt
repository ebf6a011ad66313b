-- How a certificate is read, line after line: what a line is where a part comes next, and what comes behind it.
use Rattle.std.specs.Prelude.{ℕ, ◌≡◌, ◌↔◌, ◌+◌, ◌-◌, ◌%◌, ◌≤◌, ◌⊎◌, List, [], ◌∷◌, ◌++◌, length, slice_get, nat_lt, if◌then◌else◌, Option, None, Some}
use Rattle.board.specs.Board.{PlainBoard}
use Rattle.rules.specs.declared.goal.Goal.{Goal}
use Rattle.problems.specs.declared.answer.Answer.{Answer}
use Rattle.problems.specs.declared.answer.Answer.TheVariants as answer
use Rattle.certificates.specs.declared.claim.Claim.{Claim}
use Rattle.certificates.specs.Answers.{HasClaim}
use Rattle.verifying.specs.declared.part.Mate.{Mate}
use Rattle.verifying.specs.declared.part.Part.{Part}
use Rattle.verifying.specs.declared.part.Part.TheVariants.{First, Win, Yes, Lesser, No}
use Rattle.verifying.specs.declared.words.Word.{Word}
use Rattle.verifying.specs.FirstLine.{first_line, IsInRange, HasNamedMove}
use Rattle.verifying.specs.Words.{words_line}
use Rattle.verifying.specs.Refusals.{AreLines, fed}
use Rattle.verifying.specs.Certificate.{with_claim, shorter_claim, IsYesLine, IsSomeYesLine, IsNoLine, IsLesserLine}

-- about no position two claims have different plies
abbrev pub AreApart : List Claim → Type 0
AreApart claims = (p : PlainBoard) (j k : ℕ) → HasClaim claims p j → HasClaim claims p k → j ≡ k

-- the answer that was told
abbrev pub answer_of : Part → Option Answer
answer_of First = None
answer_of (Win mate) = Some (answer.Mate mate.plies mate.first)
answer_of (Yes mate place) = Some (answer.Mate mate.plies mate.first)
answer_of (Lesser mate) = Some (answer.Mate mate.plies mate.first)
answer_of (No answer place) = Some answer

-- ---- what comes behind a line

-- the part behind the answer's line
abbrev pub begun_part : Answer → Part
begun_part (answer.Mate n first) = Win (record { plies = n; first = first })
begun_part (answer.NoneWithin limit) = No (answer.NoneWithin limit) 0

-- and the claims: none yet, or the one of the limit
abbrev pub begun_claims : PlainBoard → Answer → List Claim
begun_claims b (answer.Mate n first) = []
begun_claims b (answer.NoneWithin limit) = with_claim [] b (limit - 1 + limit % 2)

-- behind so many yes lines there is another, or the moves in front of the answer's come
abbrev pub behind_yes : Mate → ℕ → ℕ → Part
behind_yes mate place count = if nat_lt place count then Yes mate place else Lesser mate

-- the part behind a line of this one, where there are so many claims
abbrev pub part_behind : Part → ℕ → Part
part_behind First count = First
part_behind (Win mate) count = behind_yes mate 1 count
part_behind (Yes mate place) count = behind_yes mate (place + 1) count
part_behind (Lesser mate) count = No (answer.Mate mate.plies mate.first) 0
part_behind (No answer place) count = No answer (place + 1)

-- ---- what a line is

-- the line is of the claim at this place
abbrev pub IsLineAt : (Claim → List Word → List Claim → List Claim → Type 0) → ℕ → List Word → List Claim → List Claim → Type 0
IsLineAt IsLine place words old new = (c : Claim) × (slice_get old place ≡ Some c) × IsLine c words old new

-- the words are a line of this part
abbrev pub IsLineOf : Goal → PlainBoard → Part → List Word → List Claim → List Claim → Type 0
IsLineOf goal b First words old new = ⊥
IsLineOf goal b (Win mate) words old new = IsYesLine goal (record { position = b; plies = mate.plies }) mate.first words (with_claim [] b mate.plies) new
IsLineOf goal b (Yes mate place) words old new = IsLineAt (IsSomeYesLine goal) place words old new
IsLineOf goal b (Lesser mate) words old new = IsLesserLine goal b mate.plies mate.first words (shorter_claim b mate.plies) new
IsLineOf goal b (No answer place) words old new = IsLineAt (IsNoLine goal) place words old new

-- the line is an answer's, and what comes behind it
abbrev pub ReadsAnswer : Goal → PlainBoard → List ℕ → Part → List Claim → Type 0
ReadsAnswer goal b line next new =
    (answer : Answer) × IsInRange answer × HasNamedMove answer × (line ≡ first_line goal answer) × (next ≡ begun_part answer) × (new ≡ begun_claims b answer)

-- the words are a line of this part, and what comes behind it
abbrev pub ReadsWords : Goal → PlainBoard → Part → List Word → List Claim → Part → List Claim → Type 0
ReadsWords goal b part words old next new = IsLineOf goal b part words old new × (next ≡ part_behind part (length new))

-- the line is the answer's, where that comes first, or one of words; and what comes behind it
abbrev pub ReadsLine : Goal → PlainBoard → Part → List ℕ → List Claim → Part → List Claim → Type 0
ReadsLine goal b part line old next new = ((part ≡ First) × ReadsAnswer goal b line next new)
    ⊎ ((words : List Word) × (line ≡ words_line words) × (length line ≤ 8192) × ReadsWords goal b part words old next new)

-- no line is left out, and the answer is this one
abbrev pub IsEnded : Part → List Claim → Answer → Type 0
IsEnded part claims answer = (place : ℕ) × (part ≡ No answer place) × (length claims ≤ place)

-- the lines from this part on are read to their end, and the answer is this one
abbrev pub ReadsOn : Goal → PlainBoard → Part → List Claim → List (List ℕ) → Answer → Type 0
ReadsOn goal b part claims [] answer = IsEnded part claims answer
ReadsOn goal b part claims (line ∷ lines) answer =
    (next : Part) × (new : List Claim) × ReadsLine goal b part line claims next new × ReadsOn goal b next new lines answer

-- so many lines were read up to where this part comes next, and this is their text
pub record HasRead (goal : Goal) (b : PlainBoard) (number : ℕ) (part : Part) (claims : List Claim) (text : List ℕ) : Type 0 where
  pub lines : List (List ℕ)
  pub spelled : text ≡ fed lines
  pub count : number ≡ length lines
  pub grammar : AreLines goal (answer_of part) lines
  pub apart : AreApart claims
  -- what comes behind them is read on from here as it is from the beginning
  pub left : (more : List (List ℕ)) (answer : Answer) → ReadsOn goal b First [] (lines ++ more) answer ↔ ReadsOn goal b part claims more answer
