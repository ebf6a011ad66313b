-- The law of piece strings.
use Rattle.std.specs.Prelude.{◌≡◌, ℕ, List}
use Rattle.board.specs.declared.terms.Term.{Term}
use Rattle.board.specs.Notation.{IsReading}

-- a string has at most one accepted reading
abbrev pub HasOneReading : Type 0
HasOneReading = (text : List ℕ) (terms others : List Term) → IsReading text terms → IsReading text others → terms ≡ others
