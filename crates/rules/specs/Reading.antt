-- Why a text is no sound position's.
use Rattle.std.specs.Prelude.{ℕ, List}
use Rattle.board.specs.declared.fault.FenFault.{FenFault}
use Rattle.board.specs.declared.fault.FenFault.TheVariants.{OtherInCheck}
use Rattle.board.specs.Board.{PlainBoard, IsPosition}
use Rattle.board.specs.Fen.{IsFenText}
use Rattle.board.specs.FenFaults.{IsFenFault}
use Rattle.rules.specs.Reach.{IsSound}

-- a text's own fault, or: it is a position's and the side not to move is in check
abbrev pub IsSoundFault : List ℕ → FenFault → Type 0
IsSoundFault text OtherInCheck = (b : PlainBoard) × IsPosition b × IsFenText text b × (IsSound b → ⊥)
IsSoundFault text fault = IsFenFault text fault
