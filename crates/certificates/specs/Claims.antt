-- The claims of a certificate, and what they rest on. The attacker is the side to move at each claim's position.
use Rattle.std.specs.Prelude.{◌≡◌, ℕ, ◌-◌, ◌≤◌, ◌⊎◌, List, Contains}
use Rattle.board.specs.Board.{PlainBoard}
use Rattle.rules.specs.declared.goal.Goal.{Goal}
use Rattle.rules.specs.Squares.{Ply}
use Rattle.rules.specs.Moves.{IsMove, IsLawful}
use Rattle.rules.specs.Forces.{IsReached, Forces}
use Rattle.problems.specs.Answer.{ForcesNothing}
use Rattle.certificates.specs.declared.claim.Claim.{Claim}

-- ---- no claims: the attacker forces the goal within no number of plies up to the claim's

-- some claim is about the position, for n plies or more
abbrev pub ClaimsSoMany : List Claim → PlainBoard → ℕ → Type 0
ClaimsSoMany claims p n = (c : Claim) × Contains claims c × (c.position ≡ p) × (n ≤ c.plies)

-- a reply leads to a position where nothing is forced within n plies, or of which a claim says so
abbrev pub EscapesBy : Goal → List Claim → PlainBoard → ℕ → Type 0
EscapesBy goal claims q n = (r : Ply) × (p : PlainBoard) × IsMove q r p × (ForcesNothing goal p n ⊎ ClaimsSoMany claims p n)

-- The move fails within n plies: it doesn't reach the goal, and either there is no ply more, or the defender has no reply, or a reply escapes for the plies that are left
abbrev pub FailsBy : Goal → List Claim → PlainBoard → ℕ → Ply → Type 0
FailsBy goal claims b n m = (q : PlainBoard) → IsMove b m q → (IsReached goal q → ⊥) × ((n ≡ 1) ⊎ ((r : Ply) → IsLawful q r → ⊥) ⊎ EscapesBy goal claims q (n - 2))

-- a no claim holds over the claims: each of the attacker's moves fails within its plies
abbrev pub HoldsOver : Goal → List Claim → Claim → Type 0
HoldsOver goal claims c = (m : Ply) → FailsBy goal claims c.position c.plies m

-- each no claim holds over all of them
abbrev pub AllHold : Goal → List Claim → Type 0
AllHold goal claims = (c : Claim) → Contains claims c → HoldsOver goal claims c

-- ---- yes claims: the attacker forces the goal within the claim's plies

-- some claim is about the position, for n plies or fewer
abbrev pub ClaimsSoFew : List Claim → PlainBoard → ℕ → Type 0
ClaimsSoFew claims p n = (c : Claim) × Contains claims c × (c.position ≡ p) × (c.plies ≤ n)

-- at the position the goal is forced within n plies, or a claim says so
abbrev pub MetBy : Goal → List Claim → PlainBoard → ℕ → Type 0
MetBy goal claims p n = Forces goal p.mover p n ⊎ ClaimsSoFew claims p n

-- The move wins within n plies: it reaches the goal, or the defender has a reply, and each is met within the plies that are left
abbrev pub WinsBy : Goal → List Claim → PlainBoard → ℕ → Ply → Type 0
WinsBy goal claims b n m = (1 ≤ n) × (q : PlainBoard) × IsMove b m q
    × (IsReached goal q ⊎ (((r : Ply) × IsLawful q r) × ((r : Ply) (p : PlainBoard) → IsMove q r p → MetBy goal claims p (n - 2))))

-- a yes claim is won over the claims: some move wins within its plies
abbrev pub IsWon : Goal → List Claim → Claim → Type 0
IsWon goal claims c = (m : Ply) × WinsBy goal claims c.position c.plies m

-- each yes claim is won over all of them
abbrev pub AllWon : Goal → List Claim → Type 0
AllWon goal claims = (c : Claim) → Contains claims c → IsWon goal claims c

-- ---- what follows

-- No claims that hold over one another are true. They may lead to each other in circles, since what each needs of the next is two plies fewer
abbrev pub NoClaims : Type 0
NoClaims = (goal : Goal) (claims : List Claim) → AllHold goal claims → (c : Claim) → Contains claims c → ForcesNothing goal c.position c.plies

-- yes claims that are won over one another are true
abbrev pub YesClaims : Type 0
YesClaims = (goal : Goal) (claims : List Claim) → AllWon goal claims → (c : Claim) → Contains claims c → Forces goal c.position.mover c.position c.plies
