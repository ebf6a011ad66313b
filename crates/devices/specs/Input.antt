-- The input of a run.
use Rattle.std.specs.Prelude.{◌≡◌, ◌-◌, ◌<◌, ◌≤◌, ◌==◌, ℕ, List, Option, IfSome, Result, Ok, Err, length, take, slice_index, if◌then◌else◌}
use Rattle.devices.specs.declared.transfer.InputFault.{InputFault}
use Rattle.devices.specs.declared.transfer.InputFault.TheVariants.{ReadFailed, TooLong, NoMemory}

-- these are all the bytes that the reader had, where it tells, and they are at most so many
abbrev pub IsInput : ℕ → Option (List ℕ) → List ℕ → Type 0
IsInput most known bytes = (length bytes ≤ most) × IfSome known (λ input. input ≡ bytes)

-- this is so of an input: of all the bytes that the reader had, where it tells
abbrev pub OfInput : Option (List ℕ) → (List ℕ → Type 0) → Type 0
OfInput known Holds = (input : List ℕ) × IfSome known (λ told. told ≡ input) × Holds input

-- the input has more than so many bytes
abbrev pub IsTooLong : ℕ → Option (List ℕ) → Type 0
IsTooLong most known = OfInput known (λ input. most < length input)

-- how many reads failed: one at most, since a failure ends the reading
abbrev pub failed_reads : {T : Type 0} → Result T InputFault → ℕ
failed_reads (Ok bytes) = 0
failed_reads (Err ReadFailed) = 1
failed_reads (Err TooLong) = 0
failed_reads (Err NoMemory) = 0

-- the bytes without one line feed at their end, if there is one
abbrev pub without_line_feed : List ℕ → List ℕ
without_line_feed bytes =
    if slice_index bytes (length bytes - 1) == 10 then take (length bytes - 1) bytes else bytes
