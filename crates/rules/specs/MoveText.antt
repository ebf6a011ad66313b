-- How a square and a move are written.
use Rattle.std.specs.Prelude.{ℕ, ◌+◌, List, [], ◌∷◌, ◌++◌, Option, None, Some, codes}
use Rattle.board.specs.declared.game.Kind.{Kind}
use Rattle.board.specs.declared.game.Kind.TheVariants.{King, Queen, Rook, Bishop, Knight, Pawn}
use Rattle.rules.specs.Squares.{Place, Ply}

-- the file's letter and the rank's digit, as `a1`
abbrev pub square_text : Place → List ℕ
square_text s = (97 + s.file) ∷ (49 + s.rank) ∷ []

-- the letter of what a pawn becomes; no move names a king or a pawn
abbrev pub promotion_text : Option Kind → List ℕ
promotion_text None = []
promotion_text (Some Queen) = codes "q"
promotion_text (Some Rook) = codes "r"
promotion_text (Some Bishop) = codes "b"
promotion_text (Some Knight) = codes "n"
promotion_text (Some King) = []
promotion_text (Some Pawn) = []

-- from-square, to-square and the promotion, as `c4c5q`
abbrev pub move_text : Ply → List ℕ
move_text m = square_text m.from ++ square_text m.to ++ promotion_text m.promotion
