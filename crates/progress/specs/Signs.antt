-- What the sign of life tells of a search.
use Rattle.std.specs.Prelude.{◌≡◌, ◌↔◌, ◌+◌, ◌%◌, ◌<◌, ◌≤◌, ◌==◌, ℕ, List, Option, None, Some, length, slice_get, slice_index, vec_len, IsTrue, if◌then◌else◌}
use Rattle.board.specs.Board.{PlainBoard}
use Rattle.rules.specs.Order.{ListsLawful}
use Rattle.rules.specs.Squares.{Ply}
use Rattle.progress.specs.declared.sign.Sign.{Sign}
use Rattle.progress.specs.declared.sign.Work.{Work}
use Rattle.progress.specs.declared.sign.Work.TheVariants.{Open, Wins}
use Rattle.progress.specs.declared.watch.Course.{Course}
use Rattle.progress.specs.declared.watch.Course.TheVariants.{Rounds, Keys}
use Rattle.progress.specs.declared.watch.Setting.{Setting}
use Rattle.progress.specs.declared.watch.Watch.{Watch}
use Rattle.progress.specs.Place.{StandsFirst}
use Rattle.progress.specs.Text.{drawn_text, sign_text}

-- the watch is over the search at a position: its jobs are the lawful moves, in order, and there is room for what is known of each
pub record WatchesSearch (watch : Watch) (place : Setting) (b : PlainBoard) (way : Course) : Type 0 where
  pub setting : watch.setting ≡ place
  pub course : watch.course ≡ way
  pub moves : ListsLawful b watch.moves.items
  pub known : vec_len watch.known ≡ vec_len watch.moves

-- the plies of the round after one of so many: 1 after none, and then 2 more each time
abbrev pub IsRoundAfter : ℕ → ℕ → Type 0
IsRoundAfter plies next = (plies ≡ 0 → next ≡ 1) × (0 < plies → plies < 254 → next ≡ plies + 2)

-- the last round up to the limit: of an odd number of plies, and the next is beyond
abbrev pub IsLastRound : ℕ → ℕ → Type 0
IsLastRound limit round = (round ≤ limit) × (limit ≤ round + 1) × (round % 2 ≡ 1)

-- the round in which a job is: all jobs in the one after the last that ended, or each job of the keys in its own
abbrev pub IsRoundOf : Course → ℕ → ℕ → ℕ → Type 0
IsRoundOf Rounds none known round = IsRoundAfter none round
IsRoundOf (Keys plies) none known round = IsRoundAfter known round

-- within how many plies a job is to be decided: those of the round after the last that ended, or those of the search for keys
abbrev pub IsTargetOf : Course → ℕ → ℕ → Type 0
IsTargetOf Rounds none plies = IsRoundAfter none plies
IsTargetOf (Keys limit) none plies = plies ≡ limit

-- what a round that ended with nothing tells, once one has
abbrev pub told_of : ℕ → Option ℕ
told_of none = if none == 0 then None else Some none

-- what the job does: it wins, or it is the one of its number, from 1, of all
abbrev pub work_of : Watch → ℕ → ℕ → Ply → Work
work_of watch job known first = if known == 255 then Wins first else Open (job + 1) (length watch.moves.items) first

-- the sign of the job, of which this is known, where rounds of so many plies have ended with nothing
pub record IsSignOf (watch : Watch) (time job known none : ℕ) (sign : Sign) : Type 0 where
  pub seconds : sign.seconds ≡ time
  pub line : sign.line ≡ watch.setting.line
  -- a greater table is advised after ten seconds with one of under 100,000 slots
  pub advice : IsTrue sign.advises ↔ ((10 ≤ time) × (watch.setting.slots < 100000))
  pub nothing : sign.none ≡ told_of none
  pub round : IsRoundOf watch.course none known sign.round
  pub work : (first : Ply) × (slice_get watch.moves.items job ≡ Some first) × (sign.work ≡ work_of watch job known first)

-- the text is that of the sign, drawn, of the first job that wins or isn't known to lose, by what was known of each job
pub record DrawsFirst (watch : Watch) (time : ℕ) (text : List ℕ) : Type 0 where
  pub known : List ℕ
  pub none : ℕ
  pub plies : ℕ
  pub job : ℕ
  pub sign : Sign
  pub all : length known ≡ vec_len watch.known
  pub target : IsTargetOf watch.course none plies
  pub first : StandsFirst known plies job
  pub right : IsSignOf watch time job (slice_index known job) none sign
  pub drawn : text ≡ drawn_text (sign_text sign)
