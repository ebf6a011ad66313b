-- A run of a program's words, or of none where they can't be had.
use Rattle.std.specs.Prelude.{◌≡◌, ◌⊎◌, ℕ, List, [], ◌≢◌, Result, Ok, Err, codes, map, string_bytes, String, Vec}
use Rattle.clap.specs.Words.{Text}
use Rattle.command_line.specs.Words.{MeansOrder, MeansNoOrder}
use Rattle.command_line.specs.declared.line.Order.{Order}
use Rattle.endings.specs.Run.{Ending, Run, Finishes, GivesUp, Writes, failures_of, no_memory}
use Rattle.std.specs.IoError.{error_kind}
use Rattle.std.specs.declared.io.Error.{Error}
use Rattle.std.specs.declared.io.ErrorKind.{ErrorKind}
use Rattle.std.specs.declared.io.ErrorKind.TheVariants.{OutOfMemory}
use Rattle.std.specs.declared.alloc.Global.{Global}

-- ---- words

-- the words, as the system hands them over
abbrev pub Words : Type 0
Words = Vec (String Global) Global

-- the words' texts
abbrev pub texts_of : Words → List (List ℕ)
texts_of words = map string_bytes words.items

-- the words mean an order that is so
abbrev pub MeansSome : (Order → Type 0) → List Text → Type 0
MeansSome Is words = (order : Order) × MeansOrder words order × Is order

-- there are words, and they mean an order that is so
abbrev pub MeansSomeIn : (Order → Type 0) → Result Words Error → Type 0
MeansSomeIn Is (Ok words) = MeansSome Is (texts_of words)
MeansSomeIn Is (Err error) = ⊥

-- ---- a run of words

-- nothing is done: status 2, nothing is written, and nothing fails
abbrev pub DoesNothing : Run → Type 0
DoesNothing run = (run.ending.status ≡ 2) × Writes run.ending [] × (failures_of run ≡ 0)

-- the words mean no order
abbrev pub RefusesWords : List Text → Run → Type 0
RefusesWords words run = MeansNoOrder words × DoesNothing run

-- the words mean no order, or memory is wanting, or the run is one of the order that they mean
abbrev pub RunsWords : (Order → Run → Type 0) → List Text → Run → Type 0
RunsWords Runs words run = RefusesWords words run ⊎ GivesUp run ⊎ MeansSome (λ order. Runs order run) words

-- ---- a run of a program

-- how a run without words ends: for want of memory, or since a word is no text, with status 2, nothing written, and no failure
abbrev pub EndsWordless : ErrorKind → Ending → Type 0
EndsWordless kind ending =
    ((kind ≡ OutOfMemory) × Finishes ending no_memory 3)
    ⊎ ((kind ≢ OutOfMemory) × (ending.status ≡ 2) × Writes ending [] × (ending.failed_writes ≡ 0))

-- a run of the words, or without any, which reads nothing
abbrev pub RunsProgram : (Order → Run → Type 0) → Result Words Error → Run → Type 0
RunsProgram Runs (Ok words) run = RunsWords Runs (texts_of words) run
RunsProgram Runs (Err error) run = (run.failed_reads ≡ 0) × EndsWordless (error_kind error) run.ending

-- ---- what is said of words

-- what is said of a word that is no text
abbrev pub no_text : List ℕ
no_text = codes "error: a word of the command line is not UTF-8\n"

-- what is said of a goal that is none
abbrev pub no_goal : List ℕ
no_goal = codes "error: --goal is mate or stale: write one of these\n"
