-- What the threads have in a round.
use Rattle.std.specs.Prelude.{◌≡◌, ℕ, ◌-◌, ◌≤◌, List, length, map, reverse, slice_get, slice_index_or, Some}
use Rattle.crossbeam_deque.specs.Handles.{worker_view}
use Rattle.atomic_table.specs.declared.shared.Seat.{Seat}
use Rattle.slots.specs.declared.views.View.{View}
use Rattle.slots.specs.Promise.{IsSeatOf}
use Rattle.jobs.specs.Promise.{least_known}
use Rattle.rounds.specs.declared.shared.Round.{Round}
use Rattle.rounds.specs.declared.share.Share.{Share}
use Rattle.rounds.specs.declared.share.Verdict.{Verdict}
use Rattle.rounds.specs.declared.share.Verdict.TheVariants.{Open, Wins}
use Rattle.jobs.specs.Deals.{Deals}
use Rattle.problems.specs.Roots.{IsRoot, IsLimit, WinsIn}
use Rattle.rounds.specs.RootSets.{root_jobs}
use Rattle.rounds.specs.Verdicts.{AreRight}

-- the jobs are the lawful moves, so many, the round is one that is searched, and the words are those of its jobs
pub record IsRound {T : Type 0} (n : ℕ) (b : Round T) : Type 0 where
  pub root : IsRoot b.search.now.root
  pub count : length b.search.now.root.moves.items ≡ n
  pub plies : IsLimit b.plies
  pub wins : b.least.now.wins ≡ root_jobs b.search.now.root b.plies
  pub jobs : b.least.now.jobs ≡ n
  pub words : length b.states.now.words.items ≡ n

-- the job wins in the round
abbrev pub WinsHere : {T : Type 0} → Round T → ℕ → Type 0
WinsHere b job = WinsIn b.search.now.root b.plies job

-- each job that the row finds to win is known: the number isn't above it
abbrev pub KnowsWins : List Verdict → ℕ → Type 0
KnowsWins row known = (job : ℕ) → slice_index_or row job Open ≡ Wins → known ≤ job

-- A thread's share of a round of so many jobs: the round's word stops its searches, it has a right verdict for each job, its seat of the word knows of
-- each win that it found, and it has a seat of the table
pub record IsShare {J T : Type 0} (n : ℕ) (b : Round T) (s : Share J) : Type 0 where
  pub round : IsRound n b
  pub stop : s.scout.stop.least.now ≡ b.least.now
  pub row : length s.row.items ≡ n
  pub right : AreRight (WinsHere b) s.row.items
  pub knows : KnowsWins s.row.items (least_known s.scout.stop.seat)
  pub seat : IsSeatOf b.search.now.slots.now s.seat

-- of so many threads each is dealt its part of the jobs, the last one the first part
abbrev pub AreDealt : {J : Type 0} → ℕ → ℕ → List (Share J) → Type 0
AreDealt count threads shares =
    (k : ℕ) (s : Share _) → slice_get shares k ≡ Some s → Deals threads count (threads - 1 - k) (worker_view s.local)

-- the seats of the shares, from the last one's on
abbrev pub seats_back : {J : Type 0} → List (Share J) → List (Seat ℕ View)
seats_back shares = reverse (map (λ s. s.seat) shares)
