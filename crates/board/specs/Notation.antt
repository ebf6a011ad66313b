-- Piece strings as text, and how one is read as terms.
use Rattle.std.specs.Prelude.{◌≡◌, ◌≢◌, ℕ, IsTrue, true, false, List, [], ◌∷◌, ◌++◌, Contains, codes, Bool}
use Rattle.board.specs.declared.game.Kind.{Kind}
use Rattle.board.specs.declared.game.Kind.TheVariants.{King, Queen, Rook, Bishop, Knight, Pawn}
use Rattle.board.specs.declared.step.Mode.{Mode}
use Rattle.board.specs.declared.step.Mode.TheVariants.{Move, Capture, Both}
use Rattle.board.specs.declared.terms.Atom.{Atom}
use Rattle.board.specs.declared.terms.Atom.TheVariants.{Wazir, Ferz}
use Rattle.board.specs.declared.terms.Atom.TheVariants as atom
use Rattle.board.specs.declared.terms.Term.{Term}
use Rattle.board.specs.Denotation.{single, doubled, AreDistinct}

-- the string of each kind
abbrev pub piece_text : Kind → List ℕ
piece_text King = codes "K"
piece_text Queen = codes "Q"
piece_text Rook = codes "R"
piece_text Bishop = codes "B"
piece_text Knight = codes "N"
piece_text Pawn = codes "mfWcfF"

-- a byte that the notation has
abbrev pub IsLetter : ℕ → Type 0
IsLetter c = Contains (codes "mcfWFNRBQK") c

-- ---- a term's text: `m` or `c` or neither, then `f` or not, then the atom's letter once or twice

-- `m` moves without capture, `c` captures, and with neither letter both
abbrev pub mode_text : Mode → List ℕ
mode_text Move = codes "m"
mode_text Capture = codes "c"
mode_text Both = []

-- `f`: forward only
abbrev pub forward_text : Bool → List ℕ
forward_text true = codes "f"
forward_text false = []

-- W is the wazir, F the ferz and N the knight
abbrev pub atom_text : Atom → List ℕ
atom_text Wazir = codes "W"
atom_text Ferz = codes "F"
atom_text atom.Knight = codes "N"

-- a rider's letter stands twice
abbrev pub doubled_text : Bool → List ℕ → List ℕ
doubled_text true letter = letter ++ letter
doubled_text false letter = letter

-- the whole term
abbrev pub term_text : Term → List ℕ
term_text t = mode_text t.mode ++ forward_text t.forward ++ doubled_text t.rider (atom_text t.atom)

-- a term that may be written: no `f` stands before N
abbrev pub IsWritten : Term → Type 0
IsWritten t = IsTrue t.forward → t.atom ≢ atom.Knight

-- ---- reading

-- a shorthand, always bare: R for WW, B for FF, Q for RB and K for WF
pub data IsShorthand : List ℕ → List Term → Type 0 where
  rook : IsShorthand (codes "R") (doubled Wazir ∷ [])
  bishop : IsShorthand (codes "B") (doubled Ferz ∷ [])
  queen : IsShorthand (codes "Q") (doubled Wazir ∷ doubled Ferz ∷ [])
  king : IsShorthand (codes "K") (single Wazir ∷ single Ferz ∷ [])

-- the bytes are one word: a term, or a shorthand
pub data IsWord : List ℕ → List Term → Type 0 where
  term : {bytes : List ℕ} (t : Term) → IsWritten t → bytes ≡ term_text t → IsWord bytes (t ∷ [])
  short : {bytes : List ℕ} {terms : List Term} → IsShorthand bytes terms → IsWord bytes terms

-- the bytes are one word or several
pub data IsRead : List ℕ → List Term → Type 0 where
  last : {bytes : List ℕ} {terms : List Term} → IsWord bytes terms → IsRead bytes terms
  more : {bytes rest : List ℕ} {terms others : List Term} → IsWord bytes terms → IsRead rest others → IsRead (bytes ++ rest) (terms ++ others)

-- the accepted reading: no atom occurs in two terms
pub record IsReading (bytes : List ℕ) (terms : List Term) : Type 0 where
  pub read : IsRead bytes terms
  pub distinct : AreDistinct terms

-- ---- how a text begins, for a reader that goes word by word

-- the text doesn't begin with this byte
abbrev pub StartsNot : ℕ → List ℕ → Type 0
StartsNot b [] = Unit {0}
StartsNot b (c ∷ _) = c ≢ b

-- the text begins with neither m (109) nor c (99)
abbrev pub StartsNoMode : List ℕ → Type 0
StartsNoMode text = StartsNot 109 text × StartsNot 99 text

-- a term whose atom stands once isn't followed by its letter, which would double it
abbrev pub IsUndoubled : List Term → List ℕ → Type 0
IsUndoubled (t ∷ []) rest = t.rider ≡ false → (after : List ℕ) → rest ≡ atom_text t.atom ++ after → ⊥
IsUndoubled terms rest = Unit {0}

-- the terms of the longest word that the text begins with, and what follows it
pub record IsFirstWord (text : List ℕ) (terms : List Term) (rest : List ℕ) : Type 0 where
  pub bytes : List ℕ
  pub word : IsWord bytes terms
  pub begins : text ≡ bytes ++ rest
  pub whole : IsUndoubled terms rest
