-- What a line of a batch says.
use Rattle.std.specs.Prelude.{◌-◌, ◌==◌, ℕ, Bool, true, List, [], ◌∷◌, length, take, slice_index, if◌then◌else◌}

-- the bytes without one carriage return at their end, if there is one
abbrev pub without_return : List ℕ → List ℕ
without_return bytes = if slice_index bytes (length bytes - 1) == 13 then take (length bytes - 1) bytes else bytes

-- what a line says: without its feed, and without one carriage return before that
abbrev pub said_in : List ℕ → List ℕ
said_in line = if slice_index line (length line - 1) == 10 then without_return (take (length line - 1) line) else line

-- it says nothing, or it is a comment
abbrev pub is_remark : List ℕ → Bool
is_remark [] = true
is_remark (x ∷ xs) = x == 35
