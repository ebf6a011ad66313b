-- What a certificate shows of its answer, and that it proves it.
use Rattle.std.specs.Prelude.{◌≡◌, ℕ, ◌+◌, ◌-◌, ◌*◌, ◌≤◌, ◌⊎◌, List, Contains}
use Rattle.board.specs.Board.{PlainBoard}
use Rattle.rules.specs.declared.goal.Goal.{Goal}
use Rattle.rules.specs.Squares.{Ply}
use Rattle.rules.specs.Order.{IsPlyBefore}
use Rattle.problems.specs.declared.answer.Answer.{Answer}
use Rattle.problems.specs.declared.answer.Answer.TheVariants.{Mate, NoneWithin}
use Rattle.problems.specs.Answer.{IsAnswer}
use Rattle.certificates.specs.declared.claim.Claim.{Claim}
use Rattle.certificates.specs.Claims.{FailsBy, AllHold, WinsBy, AllWon}

-- n is odd
abbrev pub IsOdd : ℕ → Type 0
IsOdd n = (half : ℕ) × (n ≡ 2 * half + 1)

-- a claim is about the position, for exactly n plies
abbrev pub HasClaim : List Claim → PlainBoard → ℕ → Type 0
HasClaim claims b n = Contains claims (record { position = b; plies = n })

-- what is shown of a mate: its plies are odd, its first move wins by the yes claims, a no claim has two plies fewer, unless there is only one, and each move before the first fails by the no claims
pub record ShowsMate (goal : Goal) (b : PlainBoard) (yes_claims no_claims : List Claim) (plies : ℕ) (first : Ply) : Type 0 where
  pub odd : IsOdd plies
  pub wins : WinsBy goal yes_claims b plies first
  pub no_fewer : (plies ≡ 1) ⊎ HasClaim no_claims b (plies - 2)
  pub no_lesser : (m : Ply) → IsPlyBefore b.game m first → FailsBy goal no_claims b plies m

-- what is shown of none within a limit: a no claim for an odd number of plies, of the limit itself or one fewer at most
pub record ShowsNone (b : PlainBoard) (no_claims : List Claim) (limit : ℕ) : Type 0 where
  pub plies : ℕ
  pub odd : IsOdd plies
  pub enough : limit ≤ plies + 1
  pub claimed : HasClaim no_claims b plies

-- The claims show the answer
abbrev pub ClaimsShow : Goal → PlainBoard → List Claim → List Claim → Answer → Type 0
ClaimsShow goal b yes_claims no_claims (Mate plies first) = ShowsMate goal b yes_claims no_claims plies first
ClaimsShow goal b yes_claims no_claims (NoneWithin limit) = ShowsNone b no_claims limit

-- an answer is one up to this limit: of a mate up to its plies and any more, of none within a limit up to that limit alone
abbrev pub IsUpTo : ℕ → Answer → Type 0
IsUpTo limit (Mate plies first) = plies ≤ limit
IsUpTo limit (NoneWithin within) = within ≡ limit

-- What a certificate is to a reader: yes claims and no claims that rest on one another, and that show the answer
pub record Certifies (goal : Goal) (b : PlainBoard) (answer : Answer) : Type 0 where
  pub yes_claims : List Claim
  pub no_claims : List Claim
  pub won : AllWon goal yes_claims
  pub held : AllHold goal no_claims
  pub shown : ClaimsShow goal b yes_claims no_claims answer

-- what a certificate shows is the answer
abbrev pub CertifiedAnswers : Type 0
CertifiedAnswers = (goal : Goal) (b : PlainBoard) (limit : ℕ) (answer : Answer) → Certifies goal b answer → IsUpTo limit answer → IsAnswer goal b limit answer
