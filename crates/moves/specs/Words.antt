-- A board in three words: four bits a square, two ranks a word, and the side and the game in word 0.
use Rattle.std.specs.Prelude.{◌≡◌, ℕ, ◌*◌, ◌/◌, ◌%◌, ◌^◌, ◌<◌, List, [], ◌∷◌, Option, Some, None, cond, nat_lt, nat_eq, map, slice_index_or}
use Rattle.std.specs.List.{range_with_len}
use Rattle.board.specs.declared.game.Game.{Game}
use Rattle.board.specs.declared.game.Game.TheVariants.{LosAlamos, Gardner}
use Rattle.board.specs.declared.game.Side.{Side}
use Rattle.board.specs.declared.game.Side.TheVariants.{White, Black}
use Rattle.board.specs.declared.game.Kind.{Kind}
use Rattle.board.specs.declared.game.Kind.TheVariants.{King, Queen, Rook, Bishop, Knight, Pawn}
use Rattle.board.specs.declared.game.Unit.{Unit as Man}
use Rattle.board.specs.Games.{width_of, squares_of}
use Rattle.board.specs.Board.{PlainBoard, IsPosition, board_of, unit_on}

-- the four bits of a word that begin at bit 4 i
abbrev pub digit : ℕ → ℕ → ℕ
digit word i = word / 2 ^ (4 * i) % 16

abbrev pub man : Side → Kind → Option Man
man side kind = Some (record { side = side; kind = kind })

-- the units by code, and the unit of a code
abbrev pub men : List (Option Man)
men = None
    ∷ man White King ∷ man White Queen ∷ man White Rook ∷ man White Bishop ∷ man White Knight ∷ man White Pawn
    ∷ man Black King ∷ man Black Queen ∷ man Black Rook ∷ man Black Bishop ∷ man Black Knight ∷ man Black Pawn
    ∷ []

abbrev pub man_of : ℕ → Option Man
man_of code = slice_index_or men code None

-- square n stands in word n div 2b, at place n mod 2b
abbrev pub code_on : Game → List ℕ → ℕ → ℕ
code_on g words n = digit (slice_index_or words (n / (2 * width_of g)) 0) (n % (2 * width_of g))

abbrev pub game_of_flags : ℕ → Game
game_of_flags flags = cond (nat_lt flags 4) LosAlamos Gardner

abbrev pub mover_of_flags : ℕ → Side
mover_of_flags flags = cond (nat_eq (flags % 2) 0) White Black

-- bit 48 of word 0 is the side to move, bit 50 the game
abbrev pub flags_of : List ℕ → ℕ
flags_of words = digit (slice_index_or words 0 0) 12

abbrev pub game_of : List ℕ → Game
game_of words = game_of_flags (flags_of words)

abbrev pub units_in : Game → List ℕ → List (Option Man)
units_in g words = map (λ n. man_of (code_on g words n)) (range_with_len 0 36)

-- the board that the words stand for
abbrev pub unpacked : List ℕ → PlainBoard
unpacked words = board_of (game_of words) (mover_of_flags (flags_of words)) (units_in (game_of words) words)

-- on each square of the board stands the unit whose code the words have there; what else they hold is no matter
abbrev pub Spells : PlainBoard → List ℕ → Type 0
Spells b words = (n : ℕ) → n < squares_of b.game → unit_on b n ≡ man_of (code_on b.game words n)

-- the flags of a game and a side: the bits 0 and 2
pub record IsFlags (f : ℕ) : Type 0 where
  pub eight : f < 8
  pub colour : f % 4 < 2

-- the place of square n
abbrev pub word_of : Game → ℕ → ℕ
word_of g n = n / (2 * width_of g)

abbrev pub place_of : Game → ℕ → ℕ
place_of g n = n % (2 * width_of g)

-- the bits of a word that nothing uses: neither a square's nor word 0's flags
pub record IsUnused (g : Game) (k i : ℕ) : Type 0 where
  pub no_square : (n : ℕ) → n < squares_of g → word_of g n ≡ k → place_of g n ≡ i → ⊥
  pub no_flags : k ≡ 0 → i ≡ 12 → ⊥

-- what a board's words keep: a position, codes of units alone, and all other bits 0
pub record IsPacked (words : List ℕ) : Type 0 where
  pub position : IsPosition (unpacked words)
  pub codes : (n : ℕ) → n < squares_of (game_of words) → code_on (game_of words) words n < 13
  pub flags : flags_of words < 8
  pub colour : flags_of words % 4 < 2
  pub unused : (k i : ℕ) → IsUnused (game_of words) k i → digit (slice_index_or words k 0) i ≡ 0
