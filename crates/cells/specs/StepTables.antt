-- The table of each kind's steps.
use Rattle.std.specs.Prelude.{ℕ, ℤ, pos, neg_ℤ, Bool, true, false, List, [], ◌∷◌, ◌++◌}
use Rattle.board.specs.declared.game.Kind.{Kind}
use Rattle.board.specs.declared.game.Kind.TheVariants.{King, Queen, Rook, Bishop, Knight, Pawn}
use Rattle.board.specs.declared.step.Mode.{Mode}
use Rattle.board.specs.declared.step.Mode.TheVariants.{Move, Capture, Both}
use Rattle.board.specs.declared.step.Step.{Step}

-- a step that moves and captures alike
abbrev pub plain : Bool → ℤ → ℤ → Step
plain rider dx dy = record { dx = dx; dy = dy; rider = rider; mode = Both }

-- a pawn's, straight ahead or aslant
abbrev pub ahead : ℤ → Mode → Step
ahead dx mode = record { dx = dx; dy = pos 1; rider = false; mode = mode }

abbrev pub back : ℕ → ℤ
back n = neg_ℤ (pos n)

abbrev pub along_lines : Bool → List Step
along_lines rider = plain rider (back 1) (pos 0) ∷ plain rider (pos 0) (back 1) ∷ plain rider (pos 0) (pos 1) ∷ plain rider (pos 1) (pos 0) ∷ []

abbrev pub along_slants : Bool → List Step
along_slants rider = plain rider (back 1) (back 1) ∷ plain rider (back 1) (pos 1) ∷ plain rider (pos 1) (back 1) ∷ plain rider (pos 1) (pos 1) ∷ []

abbrev pub knight_leaps : List Step
knight_leaps = plain false (back 2) (back 1) ∷ plain false (back 2) (pos 1) ∷ plain false (back 1) (back 2) ∷ plain false (back 1) (pos 2)
    ∷ plain false (pos 1) (back 2) ∷ plain false (pos 1) (pos 2) ∷ plain false (pos 2) (back 1) ∷ plain false (pos 2) (pos 1) ∷ []

-- a kind's table; that it has the steps of the kind's denotation is proved, not believed
abbrev pub table_of : Kind → List Step
table_of King = along_lines false ++ along_slants false
table_of Queen = along_lines true ++ along_slants true
table_of Rook = along_lines true
table_of Bishop = along_slants true
table_of Knight = knight_leaps
table_of Pawn = ahead (back 1) Capture ∷ ahead (pos 0) Move ∷ ahead (pos 1) Capture ∷ []
