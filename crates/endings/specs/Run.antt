-- A run of a program: what it reads and writes, its status, and how it ends.
use Rattle.std.specs.Prelude.{◌≡◌, ◌⊎◌, ◌+◌, ◌-◌, ℕ, List, Option, codes, None, Result, Ok, Err, Vec, vec_items}
use Rattle.std.specs.Io.KnownBytes.{Appends}
use Rattle.devices.specs.Device.{AppendsBeginning}
use Rattle.refusals.specs.Reply.{Reply, refused}
use Rattle.refusals.specs.declared.refusal.Refusal.{Refusal}
use Rattle.refusals.specs.declared.refusal.Refusal.TheVariants.{NoMemory}
use Rattle.std.specs.declared.alloc.Global.{Global}

-- what was seen of a run's writer, and the status
pub record Ending : Type 0 where
  -- what was written before it and after it, where the writer tells
  pub before : Option (List ℕ)
  pub after : Option (List ℕ)
  -- how many of its writes failed
  pub failed_writes : ℕ
  pub status : ℕ

-- the ending, from the writer before it and after it, and the status
abbrev pub ending_of : {K : Type 0} → (K → Option (List ℕ)) → (K → ℕ) → K → K → ℕ → Ending
ending_of contents failures old new status = record {
  before = contents old;
  after = contents new;
  failed_writes = failures new - failures old;
  status = status;
}

-- what was seen of a run
pub record Run : Type 0 where
  -- the bytes that the reader had before it, where it tells
  pub input : Option (List ℕ)
  -- how many of its reads failed
  pub failed_reads : ℕ
  pub ending : Ending

-- the run, from the reader before it and after it, and its ending
abbrev pub run_of : {S : Type 0} → (S → Option (List ℕ)) → (S → ℕ) → S → S → Ending → Run
run_of remaining failures old new ending = record {
  input = remaining old;
  failed_reads = failures new - failures old;
  ending = ending;
}

-- a run that has no reader, from its ending
abbrev pub readerless : Ending → Run
readerless ending = record { input = None; failed_reads = 0; ending = ending }

-- all of a text was written
abbrev pub Writes : Ending → List ℕ → Type 0
Writes ending text = Appends ending.before ending.after text

-- a beginning of a text was written
abbrev pub WritesBeginning : Ending → List ℕ → Type 0
WritesBeginning ending text = AppendsBeginning ending.before ending.after text

-- a run with this status has no answer: its line was refused, or memory was
abbrev pub HasNoAnswer : ℕ → Type 0
HasNoAnswer status = (status ≡ 1) ⊎ (status ≡ 3)

-- a run with this status failed: its input couldn't be read, or its output not be written
abbrev pub HasFailed : ℕ → Type 0
HasFailed status = status ≡ 4

-- a run with this status tells why
abbrev pub MayTell : ℕ → Type 0
MayTell status = HasNoAnswer status ⊎ HasFailed status

-- what is said of an input that can't be read
abbrev pub unread_sentence : List ℕ
unread_sentence = codes "error: the input could not be read to its end\n"

-- what is said of an output that can't be written
abbrev pub unwritten_sentence : List ℕ
unwritten_sentence = codes "error: the output could not be written to its end\n"

-- the line that is written for want of memory
abbrev pub no_memory : List ℕ
no_memory = (refused NoMemory).text

-- how many reads and writes failed
abbrev pub failures_of : Run → ℕ
failures_of run = run.failed_reads + run.ending.failed_writes

-- how a text was written: all of it with no failure and the status that was asked, or a beginning of it with one failure and status 4
abbrev pub Finishes : Ending → List ℕ → ℕ → Type 0
Finishes ending text asked =
    (Writes ending text × (ending.failed_writes ≡ 0) × (ending.status ≡ asked))
    ⊎ (WritesBeginning ending text × (ending.failed_writes ≡ 1) × (ending.status ≡ 4))

-- how a refusal was written: as it is, or as want of memory
abbrev pub Refuses : Ending → Refusal → Type 0
Refuses ending refusal = Finishes ending (refused refusal).text (refused refusal).status ⊎ Finishes ending no_memory 3

-- want of memory before anything was done: the line for want of memory is written
abbrev pub GivesUp : Run → Type 0
GivesUp run = (run.failed_reads ≡ 0) × Finishes run.ending no_memory 3

-- a read failed, after all of the text was written
abbrev pub EndsUnread : Run → List ℕ → Type 0
EndsUnread run text = (run.failed_reads ≡ 1) × (run.ending.failed_writes ≡ 0) × (run.ending.status ≡ 4) × Writes run.ending text

-- a reply that is so is written, with its status; or the line for want of memory
abbrev pub WritesReply : (Reply → Type 0) → Ending → Type 0
WritesReply Is ending = ((reply : Reply) × Is reply × Finishes ending reply.text reply.status) ⊎ Finishes ending no_memory 3

-- how a reply was written: its text, or its refusal
abbrev pub EndsReply : Ending → Result (Vec ℕ Global) Refusal → Type 0
EndsReply ending (Ok text) = Finishes ending (vec_items text) 0
EndsReply ending (Err why) = Refuses ending why
