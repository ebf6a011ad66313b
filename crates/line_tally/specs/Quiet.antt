-- A tally of which nothing is told.
use Rattle.std.specs.Prelude.{◌≡◌, None}
use Rattle.line_tally.specs.declared.tally.Tally.{Tally}

-- nothing is told of the lines
abbrev pub IsQuiet : Tally → Type 0
IsQuiet tally = tally.start ≡ None
