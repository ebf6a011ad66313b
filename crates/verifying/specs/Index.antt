-- The map by which a claim is found: the words of a position lead to the plies of a claim about it.
use Rattle.std.specs.Prelude.{◌≡◌, ℕ, List, Option, length, Contains, MatchOption, bytes_eq}
use Rattle.std.specs.Map.{lookup}
use Rattle.board.specs.Board.{PlainBoard}
use Rattle.moves.specs.Words.{IsPacked, unpacked}
use Rattle.certificates.specs.declared.claim.Claim.{Claim}
use Rattle.verifying.specs.Certificate.{NoneAbout}

-- the three words of the position's board
pub record AreWordsOf (p : PlainBoard) (words : List ℕ) : Type 0 where
  pub packed : IsPacked words
  pub three : length words ≡ 3
  pub board : unpacked words ≡ p

-- what is found is a claim about the position, by its plies, or that there is none
abbrev pub IsFoundIn : List Claim → PlainBoard → Option ℕ → Type 0
IsFoundIn claims p found = MatchOption found (NoneAbout claims p) (λ plies. Contains claims (record { position = p; plies = plies }))

-- by the words of each position its claim is found
abbrev pub IsIndexOf : List (List ℕ × ℕ) → List Claim → Type 0
IsIndexOf entries claims = (p : PlainBoard) (words : List ℕ) → AreWordsOf p words → IsFoundIn claims p (lookup (bytes_eq words) entries)
