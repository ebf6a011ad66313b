-- The jobs of a solve: the lawful moves of the root, by number.
use Rattle.std.specs.Prelude.{◌≡◌, ℕ, ◌<◌, ◌≤◌, length, slice_get, Option, Some, None}
use Rattle.rules.specs.Moves.{IsMove}
use Rattle.rules.specs.Squares.{Ply}
use Rattle.rules.specs.Order.{ListsLawful}
use Rattle.problems.specs.declared.question.Question.{Question}
use Rattle.problems.specs.Questions.{question}
use Rattle.problems.specs.declared.root.Root.{Root}
use Rattle.problems.specs.Jobs.{JobWins}

-- so many plies are searched: 1 to 63
abbrev pub IsLimit : ℕ → Type 0
IsLimit plies = (0 < plies) × (plies ≤ 63)

-- its moves are the lawful ones
abbrev pub IsRoot : Root → Type 0
IsRoot r = ListsLawful r.board r.moves.items

-- the number is that of a lawful move
abbrev pub IsJobOf : Root → ℕ → Type 0
IsJobOf r job = IsRoot r × (job < length r.moves.items)

-- what a decision of the job is asked: whether the mover forces the goal from the position after its move
abbrev pub IsQuestionOf : Root → ℕ → Question → Type 0
IsQuestionOf r job q =
    (m : Ply) × (slice_get r.moves.items job ≡ Some m) × IsMove r.board m q.position
    × (q ≡ question q.position r.board.mover r.goal)

-- the job wins within n plies
abbrev pub WinsIn : Root → ℕ → ℕ → Type 0
WinsIn r n job = JobWins r.goal r.board n r.moves.items job

-- the job takes n plies: it wins within them, and within no fewer
pub record TakesIn (r : Root) (n job : ℕ) : Type 0 where
  pub some : 0 < n
  pub wins : WinsIn r n job
  pub fewer : (k : ℕ) → 0 < k → k < n → WinsIn r k job → ⊥

-- the least of the jobs below the number that wins
abbrev pub IsLeast : (ℕ → Type 0) → ℕ → ℕ → Type 0
IsLeast win jobs job = (job < jobs) × win job × ((k : ℕ) → k < job → win k → ⊥)

-- none of the jobs below the number wins
abbrev pub NoneWins : (ℕ → Type 0) → ℕ → Type 0
NoneWins win jobs = (k : ℕ) → k < jobs → win k → ⊥

-- the least winning job, or none where none wins
abbrev pub IsRoundEnd : (ℕ → Type 0) → ℕ → Option ℕ → Type 0
IsRoundEnd win jobs None = NoneWins win jobs
IsRoundEnd win jobs (Some job) = IsLeast win jobs job

-- the round of n plies finds the least job that wins, or none where none does
abbrev pub EndsRound : Root → ℕ → Option ℕ → Type 0
EndsRound r n found = IsRoundEnd (WinsIn r n) (length r.moves.items) found
