-- Where a square is seen.
use Rattle.std.specs.Prelude.{ℕ, ◌+◌, ◌-◌}
use Rattle.board.specs.declared.game.Game.{Game}
use Rattle.board.specs.declared.game.Side.{Side}
use Rattle.board.specs.declared.game.Side.TheVariants.{White, Black}
use Rattle.board.specs.Games.{width_of}
use Rattle.rules.specs.Squares.{Place}

-- a file as it is seen, or a column as a file: from the left where White sits below, from the right where Black does
abbrev pub column_of : Game → Side → ℕ → ℕ
column_of g White file = file
column_of g Black file = width_of g - (file + 1)

-- a rank as it is seen from above, or a row as a rank: the last one first where White sits below
abbrev pub row_of : Game → Side → ℕ → ℕ
row_of g White rank = width_of g - (rank + 1)
row_of g Black rank = rank

-- the square that is seen in a row and a column
abbrev pub place_drawn : Game → Side → ℕ → ℕ → Place
place_drawn g below row column = record { file = column_of g below column; rank = row_of g below row }
