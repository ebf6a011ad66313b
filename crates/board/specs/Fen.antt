-- Positions as text, in Forsyth-Edwards Notation: the board and the side to move.
use Rattle.std.specs.Prelude.{◌≡◌, ℕ, zero, suc, ◌+◌, ◌-◌, ◌<◌, List, [], ◌∷◌, ◌++◌, length, replicate, Option, Some, None}
use Rattle.board.specs.declared.game.Side.{Side}
use Rattle.board.specs.declared.game.Side.TheVariants.{White, Black}
use Rattle.board.specs.declared.game.Kind.{Kind}
use Rattle.board.specs.declared.game.Kind.TheVariants.{King, Queen, Rook, Bishop, Knight, Pawn}
use Rattle.board.specs.declared.game.Unit.{Unit as Man}
use Rattle.board.specs.Games.{width_of}
use Rattle.board.specs.Board.{PlainBoard}

-- K Q R B N P
abbrev pub kind_letter : Kind → ℕ
kind_letter King = 75
kind_letter Queen = 81
kind_letter Rook = 82
kind_letter Bishop = 66
kind_letter Knight = 78
kind_letter Pawn = 80

-- upper case for White, lower case for Black
abbrev pub letter_of : Side → Kind → ℕ
letter_of White k = kind_letter k
letter_of Black k = kind_letter k + 32

-- w or b
abbrev pub side_letter : Side → ℕ
side_letter White = 119
side_letter Black = 98

-- the bytes don't begin with a digit
abbrev pub StartsNoRun : List ℕ → Type 0
StartsNoRun [] = Unit {0}
StartsNoRun (c ∷ bytes) = (d : ℕ) → d < 10 → c ≡ 48 + d → ⊥

-- the text of a rank, from the a-file: letters, and digits for runs of empty squares, no two of them adjacent
pub data IsRankText : List ℕ → List (Option Man) → Type 0 where
  end : IsRankText [] []
  unit : {c : ℕ} {bytes : List ℕ} {units : List (Option Man)} (u : Man) → c ≡ letter_of u.side u.kind → IsRankText bytes units → IsRankText (c ∷ bytes) (Some u ∷ units)
  run : {c : ℕ} {bytes : List ℕ} {units : List (Option Man)} (d : ℕ) → 0 < d → d < 10 → c ≡ 48 + d → StartsNoRun bytes → IsRankText bytes units → IsRankText (c ∷ bytes) (replicate d None ++ units)

-- the text from rank n down to rank 1, each of w squares, and the side to move
pub data IsTextFrom (w : ℕ) (side : Side) : ℕ → List ℕ → List (Option Man) → Type 0 where
  first : {text row : List ℕ} {units : List (Option Man)} → text ≡ row ++ 32 ∷ side_letter side ∷ [] → IsRankText row units → length units ≡ w → IsTextFrom w side (suc zero) text units
  above : {n : ℕ} {text row rest : List ℕ} {units top lower : List (Option Man)} → text ≡ row ++ 47 ∷ rest → IsRankText row top → length top ≡ w → IsTextFrom w side n rest lower → units ≡ lower ++ top → IsTextFrom w side (suc n) text units

-- the text of a board: from its last rank; places that it doesn't have hold nothing
pub record IsFenText (text : List ℕ) (b : PlainBoard) : Type 0 where
  pub squares : List (Option Man)
  pub ranks : IsTextFrom (width_of b.game) b.mover (width_of b.game) text squares
  pub units : b.units ≡ squares ++ replicate (36 - length squares) None
