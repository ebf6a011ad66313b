-- The fields of a FEN. It has six: the board, the side to move, castling rights, an en passant square, and two counts of moves. The last four change
-- no mate here.
use Rattle.std.specs.Prelude.{◌==◌, ◌&&◌, ◌||◌, ℕ, Bool, true, false, List, [], ◌∷◌, ◌++◌, if◌then◌else◌, codes}

-- a byte goes onto_field the first of the fields
abbrev pub onto_field : ℕ → List (List ℕ) → List (List ℕ)
onto_field x [] = (x ∷ []) ∷ []
onto_field x (field ∷ fields) = (x ∷ field) ∷ fields

-- the fields of a text, which each space parts
abbrev pub fields_of : List ℕ → List (List ℕ)
fields_of [] = [] ∷ []
fields_of (x ∷ xs) = if x == 32 then [] ∷ fields_of xs else onto_field x (fields_of xs)

-- the byte is one of these
abbrev pub is_one_of : List ℕ → ℕ → Bool
is_one_of [] x = false
is_one_of (y ∷ ys) x = x == y || is_one_of ys x

-- each byte is one of these
abbrev pub all_of : List ℕ → List ℕ → Bool
all_of bytes [] = true
all_of bytes (x ∷ xs) = is_one_of bytes x && all_of bytes xs

-- there is a byte, and each is one of these
abbrev pub is_made_of : List ℕ → List ℕ → Bool
is_made_of bytes [] = false
is_made_of bytes (x ∷ xs) = all_of bytes (x ∷ xs)

-- the third to the sixth field of a FEN: castling rights and a square by their letters, and two numbers
abbrev pub are_counts : List (List ℕ) → Bool
are_counts (castling ∷ (passant ∷ (half ∷ (full ∷ [])))) =
    is_made_of (codes "-KQkq") castling && (is_made_of (codes "-abcdefgh12345678") passant
    && (is_made_of (codes "0123456789") half && is_made_of (codes "0123456789") full))
are_counts fields = false

-- of a text with these fields, the first two where it is a FEN of six fields, and else all of it
abbrev pub position_in : List ℕ → List (List ℕ) → List ℕ
position_in text (board ∷ (side ∷ counts)) = if are_counts counts then board ++ 32 ∷ side else text
position_in text fields = text

-- a text's position: of a FEN of six fields the first two fields, else the whole text
abbrev pub position_of : List ℕ → List ℕ
position_of text = position_in text (fields_of text)
