-- An entry as three words of 64 bits.
use Rattle.std.specs.Prelude.{◌≡◌, ℕ, ◌+◌, ◌*◌, ◌^◌, List, [], ◌∷◌, take, drop, Option, Some, None}
use Rattle.board.specs.declared.game.Game.{Game}
use Rattle.board.specs.declared.game.Game.TheVariants.{LosAlamos, Gardner}
use Rattle.board.specs.declared.game.Side.{Side}
use Rattle.board.specs.declared.game.Side.TheVariants.{White, Black}
use Rattle.board.specs.declared.game.Kind.{Kind}
use Rattle.board.specs.declared.game.Kind.TheVariants.{King, Queen, Rook, Bishop, Knight, Pawn}
use Rattle.board.specs.declared.game.Unit.{Unit as Man}
use Rattle.board.specs.Games.{width_of}
use Rattle.board.specs.Board.{PlainBoard, IsPosition}
use Rattle.rules.specs.declared.goal.Goal.{Goal}
use Rattle.rules.specs.declared.goal.Goal.TheVariants.{Mate, MateOrStale}
use Rattle.entry.specs.Bounds.{Bounds, IsBounds}
use Rattle.entry.specs.declared.entries.Entry.{Entry}

-- the entry of these parts
abbrev pub entry_of : PlainBoard → Side → Goal → Bounds → Entry
entry_of b attacker goal i = record { position = b; attacker = attacker; goal = goal; interval = i }

-- a unit's code: K, Q, R, B, N, P, k, q, r, b, n, p, and 0 for an empty square
abbrev pub kind_code : Kind → ℕ
kind_code King = 1
kind_code Queen = 2
kind_code Rook = 3
kind_code Bishop = 4
kind_code Knight = 5
kind_code Pawn = 6

abbrev pub man_code : Side → Kind → ℕ
man_code White k = kind_code k
man_code Black k = 6 + kind_code k

abbrev pub code_of : Option Man → ℕ
code_of None = 0
code_of (Some u) = man_code u.side u.kind

-- squares in a word: four bits for each, from the lowest on
abbrev pub squares_word : List (Option Man) → ℕ
squares_word [] = 0
squares_word (place ∷ places) = code_of place + 16 * squares_word places

-- pair k of the ranks: 0 for ranks 1 and 2, 1 for 3 and 4, 2 for 5 and 6
abbrev pub rank_pair : ℕ → PlainBoard → List (Option Man)
rank_pair k b = take (2 * width_of b.game) (drop (k * (2 * width_of b.game)) b.units)

abbrev pub side_bit : Side → ℕ
side_bit White = 0
side_bit Black = 1

abbrev pub game_bit : Game → ℕ
game_bit LosAlamos = 0
game_bit Gardner = 1

abbrev pub goal_bit : Goal → ℕ
goal_bit Mate = 0
goal_bit MateOrStale = 1

-- an end as a byte, 255 for unknown
abbrev pub upto_byte : Option ℕ → ℕ
upto_byte None = 255
upto_byte (Some n) = n

abbrev pub first_word : Entry → ℕ
first_word e = squares_word (rank_pair 0 e.position)
    + 2 ^ 48 * side_bit e.position.mover
    + 2 ^ 49 * side_bit e.attacker
    + 2 ^ 50 * game_bit e.position.game
    + 2 ^ 51 * goal_bit e.goal
    + 2 ^ 63

abbrev pub second_word : Entry → ℕ
second_word e = squares_word (rank_pair 1 e.position) + 2 ^ 48 * e.interval.below

abbrev pub third_word : Entry → ℕ
third_word e = squares_word (rank_pair 2 e.position) + 2 ^ 48 * upto_byte e.interval.upto

-- the words are the entry's
pub record Packing (e : Entry) (three : List ℕ) : Type 0 where
  pub position : IsPosition e.position
  pub interval : IsBounds e.interval
  pub words : three ≡ first_word e ∷ second_word e ∷ third_word e ∷ []
