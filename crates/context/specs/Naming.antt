-- Moves by their names.
use Rattle.std.specs.Prelude.{◌≡◌, List, ℕ, Some, slice_get}
use Rattle.board.specs.Board.{PlainBoard}
use Rattle.rules.specs.MoveText.{move_text}
use Rattle.rules.specs.Moves.{IsLawful}
use Rattle.rules.specs.Squares.{Ply}

-- no lawful move has this name
abbrev pub NamesNone : PlainBoard → List ℕ → Type 0
NamesNone b name = (m : Ply) → IsLawful b m → move_text m ≡ name → ⊥

-- the move of this number has the name
abbrev pub NamesJob : List Ply → List ℕ → ℕ → Type 0
NamesJob moves name job = (m : Ply) × (slice_get moves job ≡ Some m) × (move_text m ≡ name)
