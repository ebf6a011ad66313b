-- The text that is written of a board.
use Rattle.std.specs.Prelude.{ℕ, zero, suc, ◌+◌, ◌-◌, List, [], ◌∷◌, ◌++◌, length, take, drop, Option, Some, None, if◌then◌else◌, nat_lt}
use Rattle.board.specs.declared.game.Side.{Side}
use Rattle.board.specs.declared.game.Unit.{Unit as Man}
use Rattle.board.specs.Fen.{letter_of, side_letter}

-- the digit of a run of empty squares, if there are any
abbrev pub run_text : ℕ → List ℕ
run_text d = if nat_lt 0 d then (48 + d) ∷ [] else []

-- the text of a rank's units, after a run of so many empty squares
abbrev pub rank_text : ℕ → List (Option Man) → List ℕ
rank_text d [] = run_text d
rank_text d (None ∷ units) = rank_text (d + 1) units
rank_text d (Some u ∷ units) = run_text d ++ letter_of u.side u.kind ∷ rank_text 0 units

-- the text from rank n down to rank 1, each of w squares, and the side to move
abbrev pub ranks_text : ℕ → Side → ℕ → List (Option Man) → List ℕ
ranks_text w side zero units = []
ranks_text w side (suc zero) units = rank_text 0 units ++ 32 ∷ side_letter side ∷ []
ranks_text w side (suc (suc n)) units = rank_text 0 (drop (length units - w) units) ++ 47 ∷ ranks_text w side (suc n) (take (length units - w) units)
