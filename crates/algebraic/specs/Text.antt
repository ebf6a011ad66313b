-- How a name is written: `Qbxc4+`, `exd5=N#`, or with symbols of chess for the letters.
use Rattle.std.specs.Prelude.{ℕ, ◌+◌, Bool, true, false, List, [], ◌∷◌, ◌++◌, Option, None, Some, codes}
use Rattle.board.specs.declared.game.Kind.{Kind}
use Rattle.board.specs.declared.game.Kind.TheVariants.{King, Queen, Rook, Bishop, Knight, Pawn}
use Rattle.rules.specs.MoveText.{square_text}
use Rattle.rules.specs.Squares.{Place}
use Rattle.algebraic.specs.declared.symbols.Symbols.{Symbols}
use Rattle.algebraic.specs.declared.symbols.Symbols.TheVariants.{Letters, Figurines}
use Rattle.algebraic.specs.declared.origin.Origin.{Origin}
use Rattle.algebraic.specs.declared.origin.Origin.TheVariants.{Nothing, File, Rank, Both}
use Rattle.algebraic.specs.declared.ending.Ending.{Ending}
use Rattle.algebraic.specs.declared.ending.Ending.TheVariants.{Mated, Stalemated, InCheck, Free}
use Rattle.algebraic.specs.declared.name.Name.{Name}

-- the UTF-8 of a symbol of chess: 148 for the king, U+2654, and so on to 152 for the knight, U+2658
abbrev pub symbol : ℕ → List ℕ
symbol last = 226 ∷ 153 ∷ last ∷ []

-- what stands for a kind; nothing stands for a pawn
abbrev pub kind_text : Symbols → Kind → List ℕ
kind_text Letters King = codes "K"
kind_text Letters Queen = codes "Q"
kind_text Letters Rook = codes "R"
kind_text Letters Bishop = codes "B"
kind_text Letters Knight = codes "N"
kind_text Letters Pawn = []
kind_text Figurines King = symbol 148
kind_text Figurines Queen = symbol 149
kind_text Figurines Rook = symbol 150
kind_text Figurines Bishop = symbol 151
kind_text Figurines Knight = symbol 152
kind_text Figurines Pawn = []

-- what is told of a square: the file's letter, the rank's digit, or both
abbrev pub origin_text : Origin → Place → List ℕ
origin_text Nothing s = []
origin_text File s = (97 + s.file) ∷ []
origin_text Rank s = (49 + s.rank) ∷ []
origin_text Both s = square_text s

-- the sign of a capture
abbrev pub capture_text : Bool → List ℕ
capture_text true = codes "x"
capture_text false = []

-- what a pawn becomes
abbrev pub promoted_text : Symbols → Option Kind → List ℕ
promoted_text symbols None = []
promoted_text symbols (Some kind) = codes "=" ++ kind_text symbols kind

-- the sign of mate, of stalemate and of check
abbrev pub ending_text : Ending → List ℕ
ending_text Mated = codes "#"
ending_text Stalemated = codes "="
ending_text InCheck = codes "+"
ending_text Free = []

-- the unit, its origin, a capture, the square, what a pawn becomes, and check
abbrev pub name_text : Name → List ℕ
name_text n = kind_text n.symbols n.kind ++ (origin_text n.origin n.from ++ (capture_text n.captures
    ++ (square_text n.to ++ (promoted_text n.symbols n.promotion ++ ending_text n.ending))))
