-- A diagram as a picture in Scalable Vector Graphics, made of shapes alone, on white paper. A caption alone is text, which needs a font.
use Rattle.std.specs.Prelude.{ℕ, ◌+◌, ◌*◌, ◌%◌, ◌==◌, List, [], ◌∷◌, ◌++◌, Option, None, Some, IfSome, codes, if◌then◌else◌}
use Rattle.std.specs.List.{flat_map, range_with_len}
use Rattle.std.specs.Fmt.{decimal}
use Rattle.board.specs.declared.game.Side.{Side}
use Rattle.board.specs.declared.game.Side.TheVariants.{White, Black}
use Rattle.board.specs.declared.game.Unit.{Unit as Man}
use Rattle.board.specs.Board.{PlainBoard}
use Rattle.board.specs.Games.{width_of}
use Rattle.rules.specs.Squares.{Place, Ply, IsOnBoard, unit_at}
use Rattle.diagrams.specs.Drawing.{mover_drawn}
use Rattle.diagrams.specs.Places.{column_of, row_of, place_drawn}
use Rattle.diagrams.specs.Shapes.{outline, detail, file_sign, rank_sign}
use Rattle.diagrams.specs.declared.diagram.Diagram.{Diagram}

-- a board, as the side below sees it
pub record View : Type 0 where
  pub board : PlainBoard
  pub below : Side

-- what a diagram shows, but for its arrow
abbrev pub view_of : Diagram → View
view_of diagram = record { board = diagram.position.now; below = diagram.below }

-- how many squares the board has in a row
abbrev pub width : View → ℕ
width v = width_of v.board.game

-- how far a column is from the left, and a row from above: each is 100 wide, behind an edge of 44 and below one of 4
abbrev pub left_edge : ℕ → ℕ
left_edge column = 44 + 100 * column

abbrev pub top_edge : ℕ → ℕ
top_edge row = 4 + 100 * row

-- a1 is dark, and so is each second square from there
abbrev pub ground : Place → ℕ → ℕ → List ℕ
ground s row column =
    if (s.file + s.rank) % 2 == 0
    then codes "<path d=\"M" ++ (decimal (left_edge column) ++ (codes " " ++ (decimal (top_edge row) ++ codes "h100v100h-100z\" fill=\"#c9cfbf\"/>\n")))
    else []

-- the colours of a side's units
abbrev pub colours : Side → List ℕ
colours White = codes "fill=\"#fff\" stroke=\"#23251f\""
colours Black = codes "fill=\"#2b2d29\" stroke=\"#0c0d0b\""

-- the colour inside them
abbrev pub inner_colour : Side → List ℕ
inner_colour White = codes "#23251f"
inner_colour Black = codes "#d9d9cd"

-- a group of shapes in these colours, so many from the left and from above
abbrev pub group : ℕ → ℕ → List ℕ → List ℕ
group x y coloured = codes "<g transform=\"translate(" ++ (decimal x ++ (codes " " ++ (decimal y ++ (codes ")\" " ++ (coloured
    ++ codes " stroke-width=\"3.2\" stroke-linejoin=\"round\" stroke-linecap=\"round\">")))))

-- an outline with what it stands on, and what is drawn inside, in its colour
abbrev pub unit_shape : List ℕ → List ℕ → List ℕ → List ℕ
unit_shape outlined drawn_inside colour =
    codes "<path d=\"" ++ (outlined ++ (codes "M22 88h56v-7q0-5-6-6H28q-6 1-6 6z\"/><path d=\"" ++ (drawn_inside
    ++ (codes "\" fill=\"none\" stroke=\"" ++ (colour ++ codes "\"/></g>\n")))))

-- a unit on a square
abbrev pub unit_picture : Man → ℕ → ℕ → List ℕ
unit_picture u row column =
    group (left_edge column) (top_edge row) (colours u.side) ++ unit_shape (outline u.kind) (detail u.kind) (inner_colour u.side)

-- the picture of what is there, if something is
abbrev pub picture_of : {A : Type 0} → (A → List ℕ) → Option A → List ℕ
picture_of drawn None = []
picture_of drawn (Some x) = drawn x

-- the square in a row and a column
abbrev pub square_picture : View → ℕ → ℕ → List ℕ
square_picture v row column =
    let s = place_drawn v.board.game v.below row column in
    ground s row column ++ picture_of (λ u. unit_picture u row column) (unit_at v.board s)

-- a row of squares
abbrev pub row_picture : View → ℕ → List ℕ
row_picture v row = flat_map (square_picture v row) (range_with_len 0 (width v))

-- the rows of squares
abbrev pub rows_picture : View → List ℕ
rows_picture v = flat_map (row_picture v) (range_with_len 0 (width v))

-- a sign, its corner so many from the left and from above
abbrev pub sign_picture : ℕ → ℕ → List ℕ → List ℕ
sign_picture x y sign =
    codes "<path transform=\"translate(" ++ (decimal x ++ (codes " " ++ (decimal y ++ (codes ")\" d=\"" ++ (sign
    ++ codes "\" fill=\"none\" stroke=\"#23251f\" stroke-width=\"3\" stroke-linecap=\"round\"/>\n")))))

-- the sign of the rank in a row, at the left
abbrev pub rank_picture : View → ℕ → List ℕ
rank_picture v row = sign_picture 6 (39 + 100 * row) (rank_sign (row_of v.board.game v.below row))

-- the sign of the file in a column, below the board
abbrev pub file_picture : View → ℕ → List ℕ
file_picture v column = sign_picture (79 + 100 * column) (9 + 100 * width v) (file_sign (column_of v.board.game v.below column))

-- the signs of the n-th row and the n-th column
abbrev pub signs_picture : View → ℕ → List ℕ
signs_picture v n = rank_picture v n ++ file_picture v n

-- the signs of all rows and columns
abbrev pub all_signs_picture : View → List ℕ
all_signs_picture v = flat_map (signs_picture v) (range_with_len 0 (width v))

-- how far the middle of a square is from the left, and from above
abbrev pub middle_x : View → Place → ℕ
middle_x v s = 94 + 100 * column_of v.board.game v.below s.file

abbrev pub middle_y : View → Place → ℕ
middle_y v s = 54 + 100 * row_of v.board.game v.below s.rank

-- the arrow, if there is one, goes from square to square of the board
abbrev pub AreOnBoard : View → Option Ply → Type 0
AreOnBoard v arrow = IfSome arrow (λ m. IsOnBoard v.board.game m.from × IsOnBoard v.board.game m.to)

-- an arrow from a point to another
abbrev pub arrow_between : ℕ → ℕ → ℕ → ℕ → List ℕ
arrow_between x y to_x to_y =
    codes "<marker id=\"head\" viewBox=\"0 0 10 10\" refX=\"7\" refY=\"5\" markerWidth=\"4\" markerHeight=\"4\" orient=\"auto\"><path d=\"M0 0L10 5 0 10z\" fill=\"#b3261e\"/></marker>\n<path d=\"M"
    ++ (decimal x ++ (codes " " ++ (decimal y ++ (codes "L" ++ (decimal to_x ++ (codes " " ++ (decimal to_y
    ++ codes "\" fill=\"none\" stroke=\"#b3261e\" stroke-width=\"9\" marker-end=\"url(#head)\"/>\n")))))))

-- the arrow of a move
abbrev pub arrow_picture : View → Ply → List ℕ
arrow_picture v m = arrow_between (middle_x v m.from) (middle_y v m.from) (middle_x v m.to) (middle_y v m.to)

-- the head of the file: how wide and high it is
abbrev pub sized_head : ℕ → ℕ → List ℕ
sized_head wide high =
    codes "<?xml version=\"1.0\" encoding=\"UTF-8\"?>\n<svg xmlns=\"http://www.w3.org/2000/svg\" width=\"" ++ (decimal wide ++ (codes "\" height=\"" ++ (decimal high
    ++ (codes "\" viewBox=\"0 0 " ++ (decimal wide ++ (codes " " ++ (decimal high ++ codes "\" role=\"img\">\n")))))))

-- who moves, for who hears a picture, and the paper
abbrev pub sized_paper : ℕ → ℕ → List ℕ → List ℕ
sized_paper wide high mover =
    codes "<title>" ++ (mover ++ (codes "</title>\n<path d=\"M0 0h" ++ (decimal wide ++ (codes "v" ++ (decimal high ++ codes "H0z\" fill=\"#fff\"/>\n")))))

-- both of a picture that is as high as wide
abbrev pub head : ℕ → List ℕ
head side = sized_head side side

abbrev pub paper : ℕ → List ℕ → List ℕ
paper side mover = sized_paper side side mover

-- the line around a board of this width and height
abbrev pub frame : ℕ → List ℕ
frame side = codes "<path d=\"M44 4h" ++ (decimal side ++ (codes "v" ++ (decimal side ++ codes "H44z\" fill=\"none\" stroke=\"#23251f\" stroke-width=\"3\"/>\n")))

-- in the corner beside the signs a black disk, where Black moves
abbrev pub mover_mark : ℕ → Side → List ℕ
mover_mark side White = []
mover_mark side Black = codes "<path d=\"M11 " ++ (decimal (26 + side) ++ codes "a11 11 0 1 0 22 0 11 11 0 1 0-22 0z\" fill=\"#23251f\"/>\n")

-- the squares row by row, the frame, the signs of ranks and files, the mark of who moves, and the arrow
abbrev pub picture : View → Option Ply → List ℕ
picture v arrow =
    head (48 + 100 * width v) ++ (paper (48 + 100 * width v) (mover_drawn v.board.mover) ++ (rows_picture v ++ (frame (100 * width v)
    ++ (all_signs_picture v ++ (mover_mark (100 * width v) v.board.mover ++ (picture_of (arrow_picture v) arrow ++ codes "</svg>\n"))))))

-- a byte of a text in XML: `&`, `<` and `>` stand there by name
abbrev pub escaped_byte : ℕ → List ℕ
escaped_byte b = if b == 38 then codes "&amp;" else (if b == 60 then codes "&lt;" else (if b == 62 then codes "&gt;" else b ∷ []))

-- a text in XML
abbrev pub escaped : List ℕ → List ℕ
escaped text = flat_map escaped_byte text

-- below a board of this width two texts, one from its left edge on, and one up to its right edge
abbrev pub caption : ℕ → List ℕ → List ℕ → List ℕ
caption side left right =
    codes "<g font-family=\"serif\" font-size=\"28\" fill=\"#23251f\"><text x=\"44\" y=\"" ++ (decimal (74 + side) ++ (codes "\">" ++ (left
    ++ (codes "</text><text x=\"" ++ (decimal (44 + side) ++ (codes "\" y=\"" ++ (decimal (74 + side) ++ (codes "\" text-anchor=\"end\">" ++ (right
    ++ codes "</text></g>\n")))))))))

-- a picture of this height, and what is below its board
abbrev pub picture_with : View → Option Ply → ℕ → List ℕ → List ℕ
picture_with v arrow high below =
    sized_head (48 + 100 * width v) high ++ (sized_paper (48 + 100 * width v) high (mover_drawn v.board.mover) ++ (rows_picture v
    ++ (frame (100 * width v) ++ (all_signs_picture v ++ (mover_mark (100 * width v) v.board.mover ++ (picture_of (arrow_picture v) arrow
    ++ (below ++ codes "</svg>\n")))))))

-- `picture`, 40 higher, with a stipulation and keys below the board
abbrev pub captioned_picture : View → Option Ply → List ℕ → List ℕ → List ℕ
captioned_picture v arrow stipulation keys =
    picture_with v arrow (88 + 100 * width v) (caption (100 * width v) (escaped stipulation) (escaped keys))
