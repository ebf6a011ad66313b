-- The cells that a unit reaches.
use Rattle.std.specs.Prelude.{ℕ}
use Rattle.board.specs.declared.game.Unit.{Unit as Man}
use Rattle.board.specs.Board.{PlainBoard}
use Rattle.rules.specs.Squares.{Place, unit_at}
use Rattle.rules.specs.Reach.{Reaches}
use Rattle.cells.specs.Mailbox.{place_in, IsCell}

-- the cell holds a square that the unit on s reaches
abbrev pub IsTarget : PlainBoard → Man → Place → ℕ → Type 0
IsTarget b u s i = IsCell b.game i × Reaches b u s (place_in i) (unit_at b (place_in i))
