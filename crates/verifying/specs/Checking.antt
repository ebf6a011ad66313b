-- What a checker has taken of a certificate, line by line.
use Rattle.std.specs.Prelude.{◌≡◌, ℕ, List, ◌++◌}
use Rattle.board.specs.Board.{PlainBoard}
use Rattle.rules.specs.declared.goal.Goal.{Goal}
use Rattle.problems.specs.declared.answer.Answer.{Answer}
use Rattle.certificates.specs.Answers.{Certifies}
use Rattle.verifying.specs.declared.checker.Checker.{Checker}
use Rattle.verifying.specs.declared.fault.Fault.{Fault}
use Rattle.verifying.specs.Certificate.{IsCertificate, IsRefusedWith}
use Rattle.verifying.specs.Reading.{HasRead}

-- the checker, of this goal and position, has taken the lines of this text
pub record HasTakenText {A : Type 0} (goal : Goal) (b : PlainBoard) (checker : Checker A) (text : List ℕ) : Type 0 where
  pub goal_is : checker.goal ≡ goal
  pub board_is : checker.board ≡ b
  pub read : HasRead goal b checker.number checker.part checker.claims text

-- it has taken the lines of some text
abbrev pub HasTaken : {A : Type 0} → Checker A → Type 0
HasTaken checker = (goal : Goal) × (b : PlainBoard) × (text : List ℕ) × HasTakenText goal b checker text

-- behind whatever the old checker has taken, the new one has taken this text
abbrev pub TakesMore : {A : Type 0} → Checker A → Checker A → List ℕ → Type 0
TakesMore old new more = (goal : Goal) (b : PlainBoard) (text : List ℕ) → HasTakenText goal b old text → HasTakenText goal b new (text ++ more)

-- behind whatever the checker has taken, this text is refused with the fault
abbrev pub RefusesMore : {A : Type 0} → Checker A → List ℕ → Fault → Type 0
RefusesMore checker more fault = (goal : Goal) (b : PlainBoard) (text : List ℕ) → HasTakenText goal b checker text → IsRefusedWith goal b fault (text ++ more)

-- whatever the checker has taken is a certificate of the answer
abbrev pub IsProvedBy : {A : Type 0} → Checker A → Answer → Type 0
IsProvedBy checker answer = (goal : Goal) (b : PlainBoard) (text : List ℕ) → HasTakenText goal b checker text → IsCertificate goal b answer text × Certifies goal b answer
