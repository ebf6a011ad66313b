-- Which texts are certificates of an answer: each line tells of one claim, over the claims that were made before it, and may make more.
use Rattle.std.specs.Prelude.{ℕ, ◌≡◌, ◌+◌, ◌-◌, ◌*◌, ◌%◌, ◌<◌, ◌≤◌, ◌⊎◌, List, [], ◌∷◌, ◌++◌, length, map, min, nat_lt, if◌then◌else◌, slice_get, All, Contains, Some, Err}
use Rattle.board.specs.Board.{PlainBoard}
use Rattle.rules.specs.declared.goal.Goal.{Goal}
use Rattle.rules.specs.Squares.{Ply}
use Rattle.rules.specs.Moves.{IsMove, IsLawful}
use Rattle.rules.specs.Order.{ListsLawful}
use Rattle.rules.specs.Forces.{IsReached, Forces}
use Rattle.problems.specs.declared.answer.Answer.{Answer}
use Rattle.problems.specs.declared.answer.Answer.TheVariants.{Mate, NoneWithin}
use Rattle.problems.specs.Answer.{ForcesNothing}
use Rattle.certificates.specs.declared.claim.Claim.{Claim}
use Rattle.certificates.specs.Claims.{ClaimsSoMany, ClaimsSoFew}
use Rattle.verifying.specs.declared.fault.Fault.{Fault}
use Rattle.verifying.specs.declared.words.Word.{Word}
use Rattle.verifying.specs.declared.words.Word.TheVariants.{Seen, Claimed, Stalemated, Place}
use Rattle.verifying.specs.FirstLine.{first_line, IsInRange}
use Rattle.verifying.specs.Refusals.{TellsOf, fed}
use Rattle.verifying.specs.Words.{words_line}

-- no claim is about the position
abbrev pub NoneAbout : List Claim → PlainBoard → Type 0
NoneAbout claims p = (c : Claim) → Contains claims c → c.position ≡ p → ⊥

-- one claim more, behind the others
abbrev pub with_claim : List Claim → PlainBoard → ℕ → List Claim
with_claim claims p n = claims ++ record { position = p; plies = n } ∷ []

-- the move stands at this place in the list of the lawful ones
abbrev pub IsMoveAt : PlainBoard → ℕ → Ply → Type 0
IsMoveAt b place m = (moves : List Ply) × ListsLawful b moves × (slice_get moves place ≡ Some m)

-- the words tell of the moves in turn, one word a move, over the claims as they are by then
abbrev pub TellInTurn : (Ply → Word → List Claim → List Claim → Type 0) → List Ply → List Word → List Claim → List Claim → Type 0
TellInTurn Tells [] [] old new = new ≡ old
TellInTurn Tells [] (word ∷ words) old new = ⊥
TellInTurn Tells (m ∷ moves) [] old new = ⊥
TellInTurn Tells (m ∷ moves) (word ∷ words) old new = (next : List Claim) × Tells m word old next × TellInTurn Tells moves words next new

-- ---- the lines of yes claims

-- the first claim about p is made, of 2k + 1 plies, which are no more than n
abbrev pub MakesClaim : PlainBoard → ℕ → ℕ → List Claim → List Claim → Type 0
MakesClaim p n k old new = NoneAbout old p × (2 * k + 1 ≤ n) × (new ≡ with_claim old p (2 * k + 1))

-- a word meets a reply that leads to p, with n plies left: up to three are looked through; an earlier claim has no more plies; or a claim is made
abbrev pub Meets : Goal → PlainBoard → ℕ → Word → List Claim → List Claim → Type 0
Meets goal p n Seen old new = Forces goal p.mover p (min n 3) × (new ≡ old)
Meets goal p n Claimed old new = ClaimsSoFew old p n × (new ≡ old)
Meets goal p n (Place k) old new = MakesClaim p n k old new
Meets goal p n Stalemated old new = ⊥

-- the word meets the reply, with n plies left
abbrev pub MeetsReply : Goal → PlainBoard → ℕ → Ply → Word → List Claim → List Claim → Type 0
MeetsReply goal q n r word old new = (p : PlainBoard) × IsMove q r p × Meets goal p n word old new

-- the words meet each reply in turn, with n plies left
abbrev pub MeetReplies : Goal → PlainBoard → ℕ → List Word → List Claim → List Claim → Type 0
MeetReplies goal q n words old new = (replies : List Ply) × ListsLawful q replies × TellInTurn (MeetsReply goal q n) replies words old new

-- the words show that the move that led to q wins within n plies: the goal is reached and nothing is told, or there are replies, and each is met
abbrev pub ShowWin : Goal → PlainBoard → ℕ → List Word → List Claim → List Claim → Type 0
ShowWin goal q n words old new = (((r : Ply) → IsLawful q r → ⊥) × IsReached goal q × (words ≡ []) × (new ≡ old))
    ⊎ (((r : Ply) × IsLawful q r) × (3 ≤ n) × MeetReplies goal q (n - 2) words old new)

-- a yes claim's line: the place of the attacker's move m, and then what meets each reply
abbrev pub IsYesLine : Goal → Claim → Ply → List Word → List Claim → List Claim → Type 0
IsYesLine goal c m line old new = (place : ℕ) × (words : List Word) × (line ≡ Place place ∷ words) × IsMoveAt c.position place m
    × (0 < c.plies) × (q : PlainBoard) × IsMove c.position m q × ShowWin goal q c.plies words old new

-- the same, of some move
abbrev pub IsSomeYesLine : Goal → Claim → List Word → List Claim → List Claim → Type 0
IsSomeYesLine goal c line old new = (m : Ply) × IsYesLine goal c m line old new

-- ---- the lines of no claims

-- nothing is forced at p within n plies: up to three are looked through; else an earlier claim has as many plies, or a first claim about p is made
abbrev pub Resists : Goal → PlainBoard → ℕ → List Claim → List Claim → Type 0
Resists goal p n old new = ((n ≤ 3) × ForcesNothing goal p n × (new ≡ old))
    ⊎ ((3 < n) × ((ClaimsSoMany old p n × (new ≡ old)) ⊎ (NoneAbout old p × (new ≡ with_claim old p n))))

-- a word tells why the attacker's move, which led to q, fails with n plies left: the defender is stalemated, or has a reply at this place that escapes
abbrev pub TellsFailure : Goal → PlainBoard → ℕ → Word → List Claim → List Claim → Type 0
TellsFailure goal q n Stalemated old new = ((r : Ply) → IsLawful q r → ⊥) × (IsReached goal q → ⊥) × (new ≡ old)
TellsFailure goal q n (Place k) old new = (r : Ply) × (p : PlainBoard) × IsMoveAt q k r × IsMove q r p × Resists goal p n old new
TellsFailure goal q n Seen old new = ⊥
TellsFailure goal q n Claimed old new = ⊥

-- the word tells why the move fails within n plies
abbrev pub FailsBecause : Goal → PlainBoard → ℕ → Ply → Word → List Claim → List Claim → Type 0
FailsBecause goal b n m word old new = (q : PlainBoard) × IsMove b m q × TellsFailure goal q (n - 2) word old new

-- the move doesn't reach the goal
abbrev pub ReachesNothing : Goal → PlainBoard → Ply → Type 0
ReachesNothing goal b m = (q : PlainBoard) → IsMove b m q → IsReached goal q → ⊥

-- the words show that each of the moves fails within n plies: of one ply nothing is told, and no move reaches the goal
abbrev pub ShowFailures : Goal → PlainBoard → ℕ → List Ply → List Word → List Claim → List Claim → Type 0
ShowFailures goal b n moves words old new = ((n ≡ 1) × (words ≡ []) × All (ReachesNothing goal b) moves × (new ≡ old))
    ⊎ ((2 ≤ n) × TellInTurn (FailsBecause goal b n) moves words old new)

-- a no claim's line tells of each lawful move
abbrev pub IsNoLine : Goal → Claim → List Word → List Claim → List Claim → Type 0
IsNoLine goal c line old new = (moves : List Ply) × ListsLawful c.position moves × ShowFailures goal c.position c.plies moves line old new

-- a mate's first no line tells of each lawful move in front of the answer's
abbrev pub IsLesserLine : Goal → PlainBoard → ℕ → Ply → List Word → List Claim → List Claim → Type 0
IsLesserLine goal b n first line old new = (lesser : List Ply) × (others : List Ply) × ListsLawful b (lesser ++ first ∷ others)
    × ShowFailures goal b n lesser line old new

-- ---- parts

-- each line is of the claim at its place, the first at this one
abbrev pub AreLinesFrom : (Claim → List Word → List Claim → List Claim → Type 0) → ℕ → List (List Word) → List Claim → List Claim → Type 0
AreLinesFrom IsLine place [] old new = new ≡ old
AreLinesFrom IsLine place (line ∷ lines) old new =
    (c : Claim) × (next : List Claim) × (slice_get old place ≡ Some c) × IsLine c line old next × AreLinesFrom IsLine (place + 1) lines next new

-- the yes lines of a mate and the claims they make: the first has the answer's move and plies, and each other one is of some claim
abbrev pub YesLinesMake : Goal → PlainBoard → ℕ → Ply → List (List Word) → List Claim → Type 0
YesLinesMake goal b n first [] claims = ⊥
YesLinesMake goal b n first (line ∷ lines) claims = (next : List Claim) × IsYesLine goal (record { position = b; plies = n }) first line (with_claim [] b n) next
    × AreLinesFrom (IsSomeYesLine goal) 1 lines next claims

-- the claim that no mate is shorter, where one can be
abbrev pub shorter_claim : PlainBoard → ℕ → List Claim
shorter_claim b n = if nat_lt 2 n then with_claim [] b (n - 2) else []

-- the no lines of a mate and the claims they make: the first tells of the moves in front of the answer's
abbrev pub NoLinesMake : Goal → PlainBoard → ℕ → Ply → List (List Word) → List Claim → Type 0
NoLinesMake goal b n first [] claims = ⊥
NoLinesMake goal b n first (line ∷ lines) claims = (next : List Claim) × IsLesserLine goal b n first line (shorter_claim b n) next × AreLinesFrom (IsNoLine goal) 0 lines next claims

-- the no lines of none within a limit and the claims they make: the first claim is of the limit, or of one ply fewer
abbrev pub NoneLinesMake : Goal → PlainBoard → ℕ → List (List Word) → List Claim → Type 0
NoneLinesMake goal b limit lines claims = AreLinesFrom (IsNoLine goal) 0 lines (with_claim [] b (limit - 1 + limit % 2)) claims

-- the lines prove the answer, and no claim is left without a line
abbrev pub ProveAnswer : Goal → PlainBoard → Answer → List (List Word) → Type 0
ProveAnswer goal b (Mate n first) lines = (yes : List (List Word)) × (no : List (List Word)) × (lines ≡ yes ++ no)
    × ((won : List Claim) × YesLinesMake goal b n first yes won × (length won ≤ length yes))
    × ((held : List Claim) × NoLinesMake goal b n first no held × (length held < length no))
ProveAnswer goal b (NoneWithin limit) lines = (held : List Claim) × NoneLinesMake goal b limit lines held × (length held ≤ length lines)

-- the text is a certificate of the answer: the answer's line, and then lines of words that prove it
pub record IsCertificate (goal : Goal) (b : PlainBoard) (answer : Answer) (text : List ℕ) : Type 0 where
  pub range : IsInRange answer
  pub lines : List (List Word)
  pub prove : ProveAnswer goal b answer lines
  pub short : All (λ line. length (words_line line) ≤ 8192) lines
  pub spelled : text ≡ fed (first_line goal answer ∷ map words_line lines)

-- the text is a certificate of no answer
abbrev pub IsNoCertificate : Goal → PlainBoard → List ℕ → Type 0
IsNoCertificate goal b text = (answer : Answer) → IsCertificate goal b answer text → ⊥

-- the fault is told of the text, which is a certificate of no answer
abbrev pub IsRefusedWith : Goal → PlainBoard → Fault → List ℕ → Type 0
IsRefusedWith goal b fault text = TellsOf goal text (Err fault) × IsNoCertificate goal b text
