-- When a tally draws a count, and what it writes before a message.
use Rattle.std.specs.Prelude.{◌≡◌, ◌<◌, ◌≤◌, ℕ, Bool, true, false, List, [], ◌∷◌, ◌++◌, Option, None, Some}
use Rattle.line_tally.specs.Text.{cleared_text}
use Rattle.line_tally.specs.declared.count.Count.{Count}
use Rattle.line_tally.specs.declared.tally.Tally.{Tally}

-- the count of a tally at the line of this number, after so many seconds
abbrev pub count_of : Tally → ℕ → ℕ → Count
count_of tally number seconds = record { number = number; lines = tally.lines; skipped = tally.skipped; seconds = seconds }

-- a count is due where more seconds are over than at the count before it: at most one a second
abbrev pub CountsOnce : Tally → Tally → ℕ → ℕ → Option Count → Type 0
CountsOnce before after number seconds result =
    (seconds ≤ before.told → (after ≡ before) × (result ≡ None))
    × (before.told < seconds → (after.told ≡ seconds) × (after.is_drawn ≡ true) × (result ≡ Some (count_of before number seconds)))

-- what is written before a message: where a count is drawn, what clears it
abbrev pub clearing : Bool → List ℕ
clearing true = cleared_text
clearing false = []

-- a message, on a line of its own, behind what clears the count; and nothing where there is no message
abbrev pub message_text : Bool → List ℕ → List ℕ
message_text is_drawn [] = []
message_text is_drawn (first ∷ rest) = clearing is_drawn ++ (first ∷ rest)
