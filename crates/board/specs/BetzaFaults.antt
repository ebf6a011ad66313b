-- Why a piece string has no accepted reading: conditions by number. The fault of a string is the least whose condition holds.
use Rattle.std.specs.Prelude.{◌≡◌, ℕ, ◌<◌, List, [], Any}
use Rattle.board.specs.declared.betza.BetzaFault.{BetzaFault}
use Rattle.board.specs.declared.betza.BetzaFault.TheVariants.{Empty, Letter, Modifier, Repeated}
use Rattle.board.specs.declared.terms.Term.{Term}
use Rattle.board.specs.Notation.{IsLetter, IsRead, IsReading}

-- the order in which faults are asked for
abbrev pub betza_fault_number : BetzaFault → ℕ
betza_fault_number Empty = 1
betza_fault_number Letter = 2
betza_fault_number Modifier = 3
betza_fault_number Repeated = 4

-- some list of terms is a reading of the string
abbrev pub IsReadable : List ℕ → Type 0
IsReadable text = (terms : List Term) × IsRead text terms

-- the condition of each fault
abbrev pub BetzaFaultHolds : BetzaFault → List ℕ → Type 0
-- no bytes
BetzaFaultHolds Empty text = text ≡ []
-- a byte that the notation doesn't have
BetzaFaultHolds Letter text = Any (λ c. IsLetter c → ⊥) text
-- the bytes can't be read as terms
BetzaFaultHolds Modifier text = IsReadable text → ⊥
-- they can, but in every reading some atom occurs in two terms
BetzaFaultHolds Repeated text = IsReadable text × ((terms : List Term) → IsReading text terms → ⊥)

-- the string's fault: its condition holds, and none before it
pub record IsBetzaFault (text : List ℕ) (f : BetzaFault) : Type 0 where
  pub holds : BetzaFaultHolds f text
  pub least : (e : BetzaFault) → betza_fault_number e < betza_fault_number f → BetzaFaultHolds e text → ⊥
