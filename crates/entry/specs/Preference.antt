-- The preference as a test of any words: it reads the entry that they would stand for, and sees whether its packing gives them back.
use Rattle.std.specs.Prelude.{◌≡◌, ℕ, zero, suc, ◌+◌, ◌-◌, ◌*◌, ◌/◌, ◌%◌, ◌^◌, Bool, true, false, ◌&&◌, if◌then◌else◌, ◌==◌, nat_lt, nat_le, List, [], ◌∷◌, ◌++◌, length, replicate, count_by, slice_index, Option, Some, None}
use Rattle.std.specs.Str.{bytes_eq}
use Rattle.std.proofs.Common.{refl}
use Rattle.board.specs.declared.game.Game.{Game}
use Rattle.board.specs.declared.game.Game.TheVariants.{LosAlamos, Gardner}
use Rattle.board.specs.declared.game.Side.{Side}
use Rattle.board.specs.declared.game.Side.TheVariants.{White, Black}
use Rattle.board.specs.declared.game.Kind.{Kind}
use Rattle.board.specs.declared.game.Kind.TheVariants.{Bishop, Pawn}
use Rattle.board.specs.declared.game.Unit.{Unit as Man}
use Rattle.board.specs.Games.{width_of, squares_of, most_units}
use Rattle.board.specs.Board.{PlainBoard, board_of, unit_on, is_king_of, is_of_side}
use Rattle.rules.specs.declared.goal.Goal.{Goal}
use Rattle.rules.specs.declared.goal.Goal.TheVariants.{Mate, MateOrStale}
use Rattle.moves.specs.Words.{man_of}
use Rattle.entry.specs.Bounds.{Bounds, bounds_of}
use Rattle.entry.specs.declared.entries.Entry.{Entry}
use Rattle.entry.specs.Packing.{upto_byte, entry_of, first_word, second_word, third_word}
use Rattle.entry.specs.Keys.{key_words}
use Rattle.entry.specs.Prefers.{weight}

-- ---- the entry that words would stand for

-- so many squares of a word, from the lowest four bits on
abbrev pub squares_in : ℕ → ℕ → List (Option Man)
squares_in zero word = []
squares_in (suc n) word = man_of (word % 16) ∷ squares_in n (word / 16)

abbrev pub side_at : ℕ → Side
side_at bit = if bit == 0 then White else Black

abbrev pub game_at : ℕ → Game
game_at bit = if bit == 0 then LosAlamos else Gardner

abbrev pub goal_at : ℕ → Goal
goal_at bit = if bit == 0 then Mate else MateOrStale

abbrev pub end_at : ℕ → Option ℕ
end_at byte = if byte == 255 then None else Some byte

-- the units of a game's squares in three words, and none on the places that the board doesn't have
abbrev pub units_of : Game → ℕ → ℕ → ℕ → List (Option Man)
units_of g low middle high = ((squares_in (2 * width_of g) low ++ squares_in (2 * width_of g) middle) ++ squares_in (2 * width_of g) high)
    ++ replicate (36 - 6 * width_of g) None

-- a part of a word: its squares, or what stands above them
abbrev pub low_of : List ℕ → ℕ → ℕ
low_of words k = slice_index words k % 2 ^ 48

abbrev pub top_of : List ℕ → ℕ → ℕ
top_of words k = slice_index words k / 2 ^ 48

abbrev pub game_in : List ℕ → Game
game_in words = game_at (top_of words 0 / 4 % 2)

abbrev pub board_in : List ℕ → PlainBoard
board_in words = board_of (game_in words) (side_at (top_of words 0 % 2)) (units_of (game_in words) (low_of words 0) (low_of words 1) (low_of words 2))

abbrev pub entry_in : List ℕ → Entry
entry_in words = entry_of (board_in words) (side_at (top_of words 0 / 2 % 2)) (goal_at (top_of words 0 / 8 % 2))
    (bounds_of (top_of words 1) (end_at (top_of words 2)))

-- ---- whether it is an entry, and theirs

abbrev pub is_played : Game → Kind → Bool
is_played LosAlamos Bishop = false
is_played _ _ = true

abbrev pub is_pawn : Kind → Bool
is_pawn Pawn = true
is_pawn _ = false

abbrev pub is_inner : Game → ℕ → Bool
is_inner g n = nat_le (width_of g) n && nat_lt (n + width_of g) (squares_of g)

-- what stands on square n may stand there
abbrev pub may_stand : Game → ℕ → Option Man → Bool
may_stand g n None = true
may_stand g n (Some u) = nat_lt n (squares_of g) && (is_played g u.kind && (if is_pawn u.kind then is_inner g n else true))

-- so do all below square n
abbrev pub stand_below : PlainBoard → ℕ → Bool
stand_below b zero = true
stand_below b (suc n) = may_stand b.game n (unit_on b n) && stand_below b n

abbrev pub is_army : Game → List (Option Man) → Side → Bool
is_army g units side = (count_by (is_king_of side) units == 1) && nat_le (count_by (is_of_side side) units) (most_units g)

abbrev pub is_position : PlainBoard → Bool
is_position b = (length b.units == 36) && (stand_below b 36 && (is_army b.game b.units White && is_army b.game b.units Black))

abbrev pub is_end : ℕ → Option ℕ → Bool
is_end below None = true
is_end below (Some n) = nat_le n 63 && nat_le below n

abbrev pub is_interval : Bounds → Bool
is_interval i = nat_le i.below 64 && is_end i.below i.upto

abbrev pub is_packing_of : Entry → List ℕ → Bool
is_packing_of e words = is_position e.position && (is_interval e.interval && bytes_eq words (first_word e ∷ second_word e ∷ third_word e ∷ []))

abbrev pub is_packing : List ℕ → Bool
is_packing words = is_packing_of (entry_in words) words

-- ---- which words stay

abbrev pub says_all : Bounds → Bounds → Bool
says_all i j = nat_le j.below i.below && nat_le (upto_byte i.upto) (upto_byte j.upto)

-- both are packings: of one key, the old says all that the new says; of two, it weighs more
abbrev pub mate_prefers : List ℕ → List ℕ → Bool
mate_prefers old new = is_packing old && (is_packing new
    && (if bytes_eq (key_words old) (key_words new)
    then says_all (entry_in old).interval (entry_in new).interval
    else nat_lt (weight (entry_in new).interval) (weight (entry_in old).interval)))

-- three zero words never stay
pub zeros_give_way : (new : List ℕ) → mate_prefers (0 ∷ 0 ∷ 0 ∷ []) new ≡ false
zeros_give_way new = refl
