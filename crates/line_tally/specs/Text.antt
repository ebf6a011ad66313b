-- The text of a count of lines.
use Rattle.std.specs.Prelude.{ℕ, zero, suc, ◌-◌, ◌*◌, ◌/◌, nat_lt, nat_le, if◌then◌else◌, ◌||◌, List, ◌∷◌, ◌++◌, Option, None, Some, codes}
use Rattle.std.specs.Fmt.{decimal}
use Rattle.progress.specs.Text.{clear}
use Rattle.line_tally.specs.declared.count.Count.{Count}
use Rattle.line_tally.specs.declared.count.Lines.{Lines}
use Rattle.line_tally.specs.declared.count.Lines.TheVariants.{Unknown, Known}

-- the number of lines that `--lines` names, where 0 says that it isn't known
abbrev pub named_lines : ℕ → Lines
named_lines zero = Unknown
named_lines (suc n) = Known (suc n)

-- the seconds that the lines left take, at the average time of the lines answered so far: those left out at the beginning took none
abbrev pub time_of_rest : ℕ → ℕ → ℕ → ℕ → ℕ
time_of_rest lines number skipped seconds = (lines - number) * seconds / (number - skipped)

-- the same where the number of lines is known and not too low, and a line is answered
abbrev pub left_within : Lines → ℕ → ℕ → ℕ → Option ℕ
left_within Unknown number skipped seconds = None
left_within (Known lines) number skipped seconds =
    if nat_lt lines number || nat_le number skipped then None else Some (time_of_rest lines number skipped seconds)

-- the seconds left of a count, where they are known
abbrev pub seconds_left : Count → Option ℕ
seconds_left count = left_within count.lines count.number count.skipped count.seconds

-- a time: in seconds below two minutes, and else in whole minutes
abbrev pub time_text : ℕ → List ℕ
time_text seconds = if nat_lt seconds 120 then decimal seconds ++ codes " s" else decimal (seconds / 60) ++ codes " minutes"

-- as `20 of 100 lines, 8 s to go at this rate`; as `20 lines, 2 s` where the time to go isn't known
abbrev pub counted_text : Lines → Option ℕ → ℕ → ℕ → List ℕ
counted_text (Known lines) (Some left) number seconds =
    decimal number ++ (codes " of " ++ (decimal lines ++ (codes " lines, " ++ (time_text left ++ codes " to go at this rate"))))
counted_text _ _ number seconds = decimal number ++ (codes " lines, " ++ (decimal seconds ++ codes " s"))

-- the text of a count
abbrev pub count_text : Count → List ℕ
count_text count = counted_text count.lines (seconds_left count) count.number count.seconds

-- a count, drawn over what stands on the terminal's line
abbrev pub count_over_line : Count → List ℕ
count_over_line count = 13 ∷ (count_text count ++ clear)

-- what clears the terminal's line
abbrev pub cleared_text : List ℕ
cleared_text = 13 ∷ clear
