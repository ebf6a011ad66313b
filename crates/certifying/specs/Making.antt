-- What a certificate is about before its first line of claims is made, where it ends, and what its checker refuses.
use Rattle.std.specs.Prelude.{◌≡◌, ◌⊎◌, ◌≤◌, ◌++◌, ◌∷◌, [], ℕ, ◌-◌, ◌%◌, List, Option, None, Some, length, min}
use Rattle.std.specs.declared.alloc.Global.{Global}
use Rattle.rules.specs.Squares.{Ply}
use Rattle.problems.specs.declared.answer.Answer.{Answer}
use Rattle.problems.specs.declared.answer.Answer.TheVariants.{Mate, NoneWithin}
use Rattle.problems.specs.declared.question.Question.{Question}
use Rattle.verifying.specs.declared.checker.Checker.{Checker}
use Rattle.verifying.specs.declared.fault.Fault.{Fault}
use Rattle.verifying.specs.declared.words.Word.{Word}
use Rattle.verifying.specs.Checking.{RefusesMore}
use Rattle.verifying.specs.Words.{words_line}
use Rattle.certifying.specs.declared.certificate.Certificate.{Certificate}

-- the plies of the first claim: a mate's, or the greatest odd number within the limit; 63 at most
abbrev pub first_plies : Answer → ℕ
first_plies (Mate plies first) = min plies 63
first_plies (NoneWithin limit) = min (limit - (1 - limit % 2)) 63

-- a mate's move
abbrev pub first_move : Answer → Option Ply
first_move (Mate plies first) = Some first
first_move (NoneWithin limit) = None

-- the certificate is one of this answer to the question
pub record IsOfAnswer (certificate : Certificate) (root : Question) (answer : Answer) : Type 0 where
  pub question : certificate.root ≡ root
  pub claim : certificate.plies ≡ first_plies answer
  pub move : certificate.first ≡ first_move answer

-- each claim has its line, those of the moves before the answer's too: there is no line more to make
abbrev pub IsSpent : Certificate → Type 0
IsSpent certificate = (certificate.first ≡ None) × (length certificate.claims ≤ certificate.next)

-- the checker refuses a line of claims with this fault, whatever comes behind it; or it refuses the end of the text, where the maker has no line more
abbrev pub RefusesNext : Checker Global → Certificate → Fault → Type 0
RefusesNext checker certificate fault =
    ((words : List Word) × ((rest : List ℕ) → RefusesMore checker (words_line words ++ 10 ∷ rest) fault))
    ⊎ (IsSpent certificate × RefusesMore checker [] fault)
