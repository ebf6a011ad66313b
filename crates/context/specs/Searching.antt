-- A search at one position.
use Rattle.std.specs.Prelude.{◌≡◌, ◌+◌, ◌<◌, ℕ, Bool, true, false, length}
use Rattle.std.specs.declared.alloc.Global.{Global}
use Rattle.slots.specs.Promise.{slots_of}
use Rattle.searcher.specs.declared.table.Table.{Table}
use Rattle.progress.specs.Signs.{IsLastRound, WatchesSearch}
use Rattle.progress.specs.declared.watch.Course.{Course}
use Rattle.progress.specs.declared.watch.Course.TheVariants.{Rounds, Keys}
use Rattle.progress.specs.declared.watch.Watch.{Watch}
use Rattle.board.specs.Board.{PlainBoard}
use Rattle.command_line.specs.declared.line.Limits.{Limits}

-- the table has so many slots, with a seat for each worker and one for the caller's own thread
abbrev pub IsTableOf : Limits → Table Global → Type 0
IsTableOf limits table = (slots_of table.slots ≡ limits.slots) × (length table.seats.items ≡ limits.workers + 1)

-- the watch is over a search of this kind at the position, in a table of so many slots
abbrev pub WatchesAt : PlainBoard → Course → ℕ → Watch → Type 0
WatchesAt b way slots watch = WatchesSearch watch watch.setting b way × (watch.setting.slots ≡ slots)

-- how the jobs are taken up of a search for keys, or for an answer, up to this limit
abbrev pub IsCourse : Bool → ℕ → Course → Type 0
IsCourse keys limit Rounds = keys ≡ false
IsCourse keys limit (Keys round) = (keys ≡ true) × (0 < limit → limit < 256 → IsLastRound limit round)
