-- A text has one fault.
use Rattle.std.proofs.Common.{◌≡◌, ◌≢◌, ◌⊎◌, ℕ, ◌≤◌, List, cond, eqb, refl, sym, ap, subst, ◌∙◌, inl, inr, arith}
use Rattle.board.specs.declared.fault.FenFault.{FenFault}
use Rattle.board.specs.declared.fault.FenFault.TheVariants.{Fields, Shape, Letter, Run, Side, Kings, Units, PawnRank, OtherInCheck}
use Rattle.board.specs.FenFaults.{IsFenFault, fen_fault_number}
use Rattle.board.specs.Board.{PlainBoard, IsPosition}
use Rattle.board.specs.Fen.{IsFenText}
use Rattle.board.proofs.FenParts.{one_board}
use Rattle.rules.specs.Reach.{IsSound}
use Rattle.rules.specs.Reading.{IsSoundFault}
use Rattle.wintree.specs.declared.fault.TreeFault.{TreeFault}
use Rattle.wintree.specs.declared.fault.TreeFault.TheVariants.{Grammar, Deep, NoMemory}
use Rattle.wintree.specs.Offset.{IsFarthest, IsFaultOf}
use Rattle.wintree.specs.Plan.{Plan, depth}
use Rattle.wintree.specs.Text.{TreeText}
use Rattle.wintree.proofs.Depths.{not_deep}
use Rattle.text_laws.proofs.PositionTexts.{no_fault}
use Rattle.rules.proofs.Lists.{split3 as three}

-- ---- of positions

-- the fault with this number
abbrev fault_with : ℕ → FenFault
fault_with n =
    cond (eqb n 1) Fields (cond (eqb n 2) Shape (cond (eqb n 3) Letter (cond (eqb n 4) Run (cond (eqb n 5) Side (cond (eqb n 6) Kings (cond (eqb n 7) Units (cond (eqb n 8) PawnRank OtherInCheck)))))))

fault_again : (f : FenFault) → fault_with (fen_fault_number f) ≡ f
fault_again Fields = refl
fault_again Shape = refl
fault_again Letter = refl
fault_again Run = refl
fault_again Side = refl
fault_again Kings = refl
fault_again Units = refl
fault_again PawnRank = refl
fault_again OtherInCheck = refl

pub one_fault : (bytes : List ℕ) (f g : FenFault) → IsFenFault bytes f → IsFenFault bytes g → f ≡ g
one_fault bytes f g x y = elim (three (fen_fault_number f) (fen_fault_number g)) as (λ _. f ≡ g) [
  | inl before ↦ absurd (y.least f before x.holds)
  | inr (inl same) ↦ sym (fault_again f) ∙ ap fault_with same ∙ fault_again g
  | inr (inr after) ↦ absurd (x.least g after y.holds)
]

-- ---- of positions that have to be sound

-- the fault is that of a position whose other side is in check, or the text's own
split : (bytes : List ℕ) (f : FenFault) → IsSoundFault bytes f → ((f ≡ OtherInCheck) × ((b : PlainBoard) × IsPosition b × IsFenText bytes b × (IsSound b → ⊥))) ⊎ IsFenFault bytes f
split bytes Fields x = inr x
split bytes Shape x = inr x
split bytes Letter x = inr x
split bytes Run x = inr x
split bytes Side x = inr x
split bytes Kings x = inr x
split bytes Units x = inr x
split bytes PawnRank x = inr x
split bytes OtherInCheck x = inl (refl, x)

pub one_sound_fault : (bytes : List ℕ) (f g : FenFault) → IsSoundFault bytes f → IsSoundFault bytes g → f ≡ g
one_sound_fault bytes f g x y = elim (split bytes f x) as (λ _. f ≡ g) [
  | inl other ↦ elim (split bytes g y) as (λ _. f ≡ g) [
    | inl also ↦ other.0 ∙ sym also.0
    | inr own ↦ absurd (no_fault other.1.0 other.1.1 bytes other.1.2 g own.holds)
  ]
  | inr own ↦ elim (split bytes g y) as (λ _. f ≡ g) [
    | inl other ↦ absurd (no_fault other.1.0 other.1.1 bytes other.1.2 f own.holds)
    | inr also ↦ one_fault bytes f g own also
  ]
]

pub no_sound_fault : (bytes : List ℕ) (b : PlainBoard) (f : FenFault) → IsPosition b → IsFenText bytes b → IsSound b → IsSoundFault bytes f → ⊥
no_sound_fault bytes b f position fen sound x = elim (split bytes f x) [
  | inl other ↦ other.1.3 (subst IsSound (one_board bytes b other.1.0 fen other.1.2) sound)
  | inr own ↦ no_fault b position bytes fen f own.holds
]

-- ---- of trees

one_offset : (bytes : List ℕ) (g h : ℕ) → IsFarthest bytes g → IsFarthest bytes h → g ≡ h
one_offset bytes g h far other = omega (arith, far.longest h other.within other.begins, other.longest g far.within far.begins)

pub one_tree_fault : (bytes : List ℕ) (f g : TreeFault) → f ≢ NoMemory → g ≢ NoMemory → IsFaultOf bytes f → IsFaultOf bytes g → f ≡ g
one_tree_fault bytes (Grammar g) (Grammar h) a b x y = ap Grammar (one_offset bytes g h x.0 y.0)
one_tree_fault bytes (Grammar g) Deep a b x y = absurd (x.1 y)
one_tree_fault bytes Deep (Grammar h) a b x y = absurd (y.1 x)
one_tree_fault bytes Deep Deep a b x y = refl
one_tree_fault bytes NoMemory g a b x y = absurd (a refl)
one_tree_fault bytes f NoMemory a b x y = absurd (b refl)

pub no_tree_fault : (bytes : List ℕ) (plan : Plan) (f : TreeFault) → TreeText bytes plan → depth plan ≤ 32 → IsFaultOf bytes f → f ≡ NoMemory
no_tree_fault bytes plan (Grammar g) t low x = absurd (x.2 (plan, t))
no_tree_fault bytes plan Deep t low x = absurd (not_deep bytes plan t.0 t.1 low x)
no_tree_fault bytes plan NoMemory t low x = refl
