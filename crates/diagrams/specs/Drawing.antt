-- A diagram as text.
use Rattle.std.specs.Prelude.{ℕ, ◌+◌, List, [], ◌∷◌, ◌++◌, Option, None, Some, codes}
use Rattle.std.specs.List.{flat_map, range_with_len}
use Rattle.std.specs.Fmt.{decimal}
use Rattle.board.specs.declared.game.Game.{Game}
use Rattle.board.specs.declared.game.Side.{Side}
use Rattle.board.specs.declared.game.Side.TheVariants.{White, Black}
use Rattle.board.specs.declared.game.Kind.{Kind}
use Rattle.board.specs.declared.game.Kind.TheVariants.{King, Queen, Rook, Bishop, Knight, Pawn}
use Rattle.board.specs.declared.game.Unit.{Unit as Man}
use Rattle.board.specs.Board.{PlainBoard}
use Rattle.board.specs.Fen.{letter_of}
use Rattle.board.specs.Games.{width_of}
use Rattle.rules.specs.Squares.{unit_at}
use Rattle.diagrams.specs.Places.{column_of, row_of, place_drawn}
use Rattle.diagrams.specs.declared.style.Style.{Style}
use Rattle.diagrams.specs.declared.style.Style.TheVariants.{Letters, Symbols}

-- the last byte of a symbol of chess: U+2654 to U+2659 are White's king, queen, rook, bishop, knight and pawn
abbrev pub kind_symbol : Kind → ℕ
kind_symbol King = 148
kind_symbol Queen = 149
kind_symbol Rook = 150
kind_symbol Bishop = 151
kind_symbol Knight = 152
kind_symbol Pawn = 153

-- U+265A and so on are Black's
abbrev pub symbol_of : Side → Kind → ℕ
symbol_of White kind = kind_symbol kind
symbol_of Black kind = kind_symbol kind + 6

-- a unit's letter, or its symbol in UTF-8
abbrev pub unit_drawn : Style → Man → List ℕ
unit_drawn Letters u = letter_of u.side u.kind ∷ []
unit_drawn Symbols u = 226 ∷ 153 ∷ symbol_of u.side u.kind ∷ []

-- what stands on a square, or a point where nothing does
abbrev pub sign_on : Style → Option Man → List ℕ
sign_on style None = codes "."
sign_on style (Some u) = unit_drawn style u

-- the square in a row and a column, with a blank before it
abbrev pub square_drawn : Style → Side → PlainBoard → ℕ → ℕ → List ℕ
square_drawn style below b row column = 32 ∷ sign_on style (unit_at b (place_drawn b.game below row column))

-- a row on a line of its own: its rank's number, and its squares
abbrev pub row_drawn : Style → Side → PlainBoard → ℕ → List ℕ
row_drawn style below b row =
    codes " " ++ decimal (row_of b.game below row + 1) ++ codes " " ++ flat_map (square_drawn style below b row) (range_with_len 0 (width_of b.game)) ++ codes "\n"

-- the rows, as this side sees them
abbrev pub rows_drawn : Style → Side → PlainBoard → List ℕ
rows_drawn style below b = flat_map (row_drawn style below b) (range_with_len 0 (width_of b.game))

-- the letter of a column's file, with a blank before it
abbrev pub file_drawn : Game → Side → ℕ → List ℕ
file_drawn g below column = 32 ∷ (97 + column_of g below column) ∷ []

-- the letters of the files, from column to column
abbrev pub files_drawn : Game → Side → List ℕ
files_drawn g below = flat_map (file_drawn g below) (range_with_len 0 (width_of g))

-- who moves
abbrev pub mover_drawn : Side → List ℕ
mover_drawn White = codes "White to move"
mover_drawn Black = codes "Black to move"

-- the rows as this side sees them, and below them the files and who moves
abbrev pub board_drawn : Style → Side → PlainBoard → List ℕ
board_drawn style below b =
    rows_drawn style below b ++ codes "   " ++ files_drawn b.game below ++ codes "      " ++ mover_drawn b.mover ++ codes "\n"
