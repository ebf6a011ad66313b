-- What contracts say of a job board and its seats.
use Rattle.std.specs.Prelude.{◌≡◌, ℕ, ◌<◌, ◌≤◌, [], ◌∷◌}
use mathlib.Core.Option as option
use lib.ListN.{get_elem?}
use Rattle.atomic_table.specs.Table.{State}
use Rattle.atomic_table.specs.declared.shared.Seat.{Seat}
use Rattle.jobs.specs.declared.views.JobView.{JobView}
use Rattle.jobs.specs.JobBoard.{JobBoard}
use Rattle.jobs.specs.Rule.{NoneOrWins, BoardHolds}

-- what `make` takes
abbrev pub IsBoardSize : ℕ → ℕ → Type 0
IsBoardSize jobs callers = (jobs ≤ 512) × (0 < callers) × (callers ≤ 17)

module _ {W : Type 0} where
  -- the job is one of the board's, and wins
  abbrev pub JobWins : (W → ℕ → Type 0) → JobBoard W → ℕ → Type 0
  JobWins wins board job = (job < board.jobs) × wins board.wins job

  -- n is the number of jobs, or a job that wins
  abbrev pub IsBest : (W → ℕ → Type 0) → JobBoard W → ℕ → Type 0
  IsBest wins board n = NoneOrWins wins board.wins board.jobs n

  -- the least job that the caller knows to win, or the number of jobs
  abbrev pub least_known : Seat (Unit {0}) (JobView W) → ℕ
  least_known seat = seat.me.0.known

  -- how many atomic steps the caller has made
  abbrev pub steps : Seat (Unit {0}) (JobView W) → ℕ
  steps seat = seat.me.0.steps

  -- The seat is one that this board's `make` handed out. It keeps the jobs that win, and how many jobs there are
  abbrev pub IsJobSeatOf : JobBoard W → Seat (Unit {0}) (JobView W) → Type 0
  IsJobSeatOf board seat = (seat.table_id ≡ board.table) × (seat.me.1 ≡ []) × (seat.me.0.wins ≡ board.wins) × (seat.me.0.jobs ≡ board.jobs)

  -- a seat that knows of no job
  abbrev pub IsNewJobSeatOf : JobBoard W → Seat (Unit {0}) (JobView W) → Type 0
  IsNewJobSeatOf board seat = IsJobSeatOf board seat × (least_known seat ≡ board.jobs)

  -- The board of the seat was given up: the rule held at the end, with the view of the seat and this word
  pub record GivenUp (wins : W → ℕ → Type 0) (board : JobBoard W) (seat : Seat (Unit {0}) (JobView W)) (word : ℕ) : Type 0 where
    pub state : State (Unit {0}) (JobView W)
    pub whose : seat.table_id ≡ board.table
    pub rule : BoardHolds wins board.wins board.jobs state
    pub view : get_elem? state.views seat.id ≡ option.some seat.me.0
    pub words : state.words ≡ word ∷ []
