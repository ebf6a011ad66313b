-- Why a text is no position's: conditions on its bytes, by number. The fault of a text is the least whose condition holds.
use Rattle.std.specs.Prelude.{◌≡◌, ◌≢◌, ℕ, ◌-◌, ◌+◌, ◌<◌, ◌⊎◌, ◌==◌, ◌&&◌, ◌||◌, Bool, if◌then◌else◌, IsTrue, List, [], ◌∷◌, length, map, replicate, Any, Contains, count_by, sum_by, slice_index, nat_le}
use Rattle.std.specs.List.{before_first, after_first, slice_split, list_any}
use Rattle.board.specs.declared.game.Game.{Game}
use Rattle.board.specs.declared.game.Side.{Side}
use Rattle.board.specs.declared.game.Side.TheVariants.{White, Black}
use Rattle.board.specs.declared.game.Kind.TheVariants.{King, Pawn}
use Rattle.board.specs.declared.game.Unit.{Unit as Man}
use Rattle.board.specs.declared.fault.FenFault.{FenFault}
use Rattle.board.specs.declared.fault.FenFault.TheVariants.{Fields, Shape, Letter, Run, Side as SideText, Kings, Units, PawnRank, OtherInCheck}
use Rattle.board.specs.Games.{width_of, most_units, IsPlayed}
use Rattle.board.specs.Fen.{letter_of, side_letter}

-- ---- the parts of a text

-- what stands before the first space
abbrev pub board_part : List ℕ → List ℕ
board_part text = before_first (λ c. c == 32) text

-- what stands after the first space
abbrev pub side_part : List ℕ → List ℕ
side_part text = after_first (λ c. c == 32) text

-- the parts of a board between `/`, from the last rank
abbrev pub rows : List ℕ → List (List ℕ)
rows board = slice_split (λ c. c == 47) board

-- the first row, that of the last rank
abbrev pub first_of : List (List ℕ) → List ℕ
first_of [] = []
first_of (row ∷ _) = row

-- the last row, that of rank 1
abbrev pub last_of : List (List ℕ) → List ℕ
last_of [] = []
last_of (row ∷ []) = row
last_of (row ∷ next ∷ rest) = last_of (next ∷ rest)

-- 0 to 9
abbrev pub is_digit : ℕ → Bool
is_digit c = nat_le 48 c && nat_le c 57

-- how many squares a row has: a digit counts its value, every other byte 1
abbrev pub row_width : List ℕ → ℕ
row_width row = sum_by (λ c. if is_digit c then c - 48 else 1) row

-- r rows of width r
abbrev pub IsShape : Game → List ℕ → Type 0
IsShape g board = map row_width (rows board) ≡ replicate (width_of g) (width_of g)

-- a byte that a board may have: the separator of rows, a digit, or a letter of the game's units
pub data IsBoardByte (g : Game) (c : ℕ) : Type 0 where
  separator : c ≡ 47 → IsBoardByte g c
  digit : IsTrue (is_digit c) → IsBoardByte g c
  letter : (u : Man) → IsPlayed g u.kind → c ≡ letter_of u.side u.kind → IsBoardByte g c

-- two digits stand next to each other
abbrev pub HasAdjacentRuns : List ℕ → Type 0
HasAdjacentRuns board = (i : ℕ) × (i + 1 < length board) × IsTrue (is_digit (slice_index board i)) × IsTrue (is_digit (slice_index board (i + 1)))

-- upper case for White, lower case for Black
abbrev pub is_case_of : Side → ℕ → Bool
is_case_of White c = nat_le 65 c && nat_le c 90
is_case_of Black c = nat_le 97 c && nat_le c 122

-- a row has a pawn of either side
abbrev pub has_pawn : List ℕ → Bool
has_pawn row = list_any (λ c. c == letter_of White Pawn || c == letter_of Black Pawn) row

-- ---- the conditions

-- the order in which faults are asked for
abbrev pub fen_fault_number : FenFault → ℕ
fen_fault_number Fields = 1
fen_fault_number Shape = 2
fen_fault_number Letter = 3
fen_fault_number Run = 4
fen_fault_number SideText = 5
fen_fault_number Kings = 6
fen_fault_number Units = 7
fen_fault_number PawnRank = 8
fen_fault_number OtherInCheck = 9

-- the condition of each fault
abbrev pub FenFaultHolds : FenFault → List ℕ → Type 0
-- not exactly one space
FenFaultHolds Fields text = count_by (λ c. c == 32) text ≢ 1
-- the shape of neither game
FenFaultHolds Shape text = (g : Game) → IsShape g (board_part text) → ⊥
-- a byte of a row that is neither a digit nor a letter of the game's units
FenFaultHolds Letter text = (g : Game) × IsShape g (board_part text) × Any (λ c. IsBoardByte g c → ⊥) (board_part text)
-- a digit 0, or two adjacent digits
FenFaultHolds Run text = Contains (board_part text) 48 ⊎ HasAdjacentRuns (board_part text)
-- the side isn't w or b
FenFaultHolds SideText text = (side : Side) → side_part text ≢ side_letter side ∷ []
-- not one king a side
FenFaultHolds Kings text = (side : Side) × (count_by (λ c. c == letter_of side King) (board_part text) ≢ 1)
-- a side has too many units
FenFaultHolds Units text = (g : Game) × IsShape g (board_part text) × ((side : Side) × (most_units g < count_by (is_case_of side) (board_part text)))
-- a pawn in the first row or the last
FenFaultHolds PawnRank text = IsTrue (has_pawn (first_of (rows (board_part text))) || has_pawn (last_of (rows (board_part text))))
-- a text alone doesn't show it
FenFaultHolds OtherInCheck text = ⊥

-- the text's fault: its condition holds, and none before it
pub record IsFenFault (text : List ℕ) (f : FenFault) : Type 0 where
  pub holds : FenFaultHolds f text
  pub least : (e : FenFault) → fen_fault_number e < fen_fault_number f → FenFaultHolds e text → ⊥
