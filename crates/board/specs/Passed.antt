-- What a text shows that has not a fault.
use Rattle.std.specs.Prelude.{◌≡◌, ℕ, List, [], ◌∷◌, All}
use Rattle.board.specs.declared.game.Game.{Game}
use Rattle.board.specs.declared.game.Side.{Side}
use Rattle.board.specs.declared.fault.FenFault.{FenFault}
use Rattle.board.specs.declared.fault.FenFault.TheVariants.{Shape, Letter, Side as SideText}
use Rattle.board.specs.Fen.{side_letter}
use Rattle.board.specs.FenFaults.{FenFaultHolds, IsShape, IsBoardByte, board_part, side_part}

-- the text has a shape, a game's bytes or a side; of the other faults the condition doesn't hold
abbrev pub Passes : FenFault → List ℕ → Type 0
Passes Shape text = (g : Game) × IsShape g (board_part text)
Passes Letter text = (g : Game) → IsShape g (board_part text) → All (IsBoardByte g) (board_part text)
Passes SideText text = (side : Side) × (side_part text ≡ side_letter side ∷ [])
Passes f text = FenFaultHolds f text → ⊥
