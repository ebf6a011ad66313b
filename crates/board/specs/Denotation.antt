-- Piece strings in Betza's notation: what steps a unit has.
use Rattle.std.specs.Prelude.{◌≡◌, ◌≢◌, ℕ, ℤ, pos, ◌<ℤ◌, ◌⊎◌, ◌↔◌, IsTrue, true, false, List, [], ◌∷◌, Any, AllPairs, Contains}
use Rattle.std.specs.Int.RustNames.{unsigned_abs}
use Rattle.board.specs.declared.game.Kind.{Kind}
use Rattle.board.specs.declared.game.Kind.TheVariants.{King, Queen, Rook, Bishop, Knight, Pawn}
use Rattle.board.specs.declared.step.Mode.TheVariants.{Move, Capture, Both}
use Rattle.board.specs.declared.step.Step.{Step}
use Rattle.board.specs.declared.terms.Atom.{Atom}
use Rattle.board.specs.declared.terms.Atom.TheVariants.{Wazir, Ferz}
use Rattle.board.specs.declared.terms.Atom.TheVariants as atom
use Rattle.board.specs.declared.terms.Term.{Term}

-- the (m, n)-leaper's leaps: m squares along one axis and n along the other
abbrev pub IsLeap : ℕ → ℕ → ℤ → ℤ → Type 0
IsLeap m n dx dy = ((unsigned_abs dx ≡ m) × (unsigned_abs dy ≡ n)) ⊎ ((unsigned_abs dx ≡ n) × (unsigned_abs dy ≡ m))

-- W is the (1, 0)-leaper, F the (1, 1)-leaper and N the (1, 2)-leaper
abbrev pub IsAtomLeap : Atom → ℤ → ℤ → Type 0
IsAtomLeap Wazir dx dy = IsLeap 1 0 dx dy
IsAtomLeap Ferz dx dy = IsLeap 1 1 dx dy
IsAtomLeap atom.Knight dx dy = IsLeap 1 2 dx dy

-- a term's leaps: its atom's, and under `f` only those ahead
pub record IsTermLeap (t : Term) (dx dy : ℤ) : Type 0 where
  pub atom : IsAtomLeap t.atom dx dy
  pub ahead : IsTrue t.forward → pos 0 <ℤ dy

-- a term's steps: each of its leaps, with its mode, repeated for a doubled atom
pub record IsTermStep (t : Term) (s : Step) : Type 0 where
  pub leap : IsTermLeap t s.dx s.dy
  pub rider : s.rider ≡ t.rider
  pub mode : s.mode ≡ t.mode

-- a denotation's steps: those of each of its terms
abbrev pub Denotes : List Term → Step → Type 0
Denotes terms s = Any (λ t. IsTermStep t s) terms

-- no atom occurs in two terms
abbrev pub AreDistinct : List Term → Type 0
AreDistinct terms = AllPairs (λ t u. t.atom ≢ u.atom) terms

-- a term with no modifier, its atom once
abbrev pub single : Atom → Term
single a = record { mode = Both; forward = false; atom = a; rider = false }

-- a term with no modifier, its atom doubled
abbrev pub doubled : Atom → Term
doubled a = record { mode = Both; forward = false; atom = a; rider = true }

-- what a kind's string says: `K` is WF, `Q` is RB, `R` is WW, `B` is FF, then `N`, and `mfWcfF` for the pawn
abbrev pub terms_of : Kind → List Term
terms_of King = single Wazir ∷ single Ferz ∷ []
terms_of Queen = doubled Wazir ∷ doubled Ferz ∷ []
terms_of Rook = doubled Wazir ∷ []
terms_of Bishop = doubled Ferz ∷ []
terms_of Knight = single atom.Knight ∷ []
terms_of Pawn = record { mode = Move; forward = true; atom = Wazir; rider = false }
    ∷ record { mode = Capture; forward = true; atom = Ferz; rider = false }
    ∷ []

-- the order of steps: by dx, then by dy
abbrev pub IsStepBefore : Step → Step → Type 0
IsStepBefore a b = (a.dx <ℤ b.dx) ⊎ ((a.dx ≡ b.dx) × (a.dy <ℤ b.dy))

-- the list has exactly the steps of the terms, in order, so each once
pub record ListsSteps (terms : List Term) (steps : List Step) : Type 0 where
  pub ordered : AllPairs IsStepBefore steps
  pub exact : (s : Step) → Contains steps s ↔ Denotes terms s
