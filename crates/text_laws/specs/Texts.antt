-- Laws of the texts of positions and of trees.
use Rattle.std.specs.Prelude.{◌≡◌, ◌≢◌, ℕ, ◌≤◌, List}
use Rattle.board.specs.declared.fault.FenFault.{FenFault}
use Rattle.board.specs.Board.{PlainBoard, IsPosition}
use Rattle.board.specs.Fen.{IsFenText}
use Rattle.board.specs.FenFaults.{IsFenFault}
use Rattle.rules.specs.Reach.{IsSound}
use Rattle.rules.specs.Reading.{IsSoundFault}
use Rattle.wintree.specs.declared.fault.TreeFault.{TreeFault}
use Rattle.wintree.specs.declared.fault.TreeFault.TheVariants.{NoMemory}
use Rattle.wintree.specs.Offset.{IsFaultOf}
use Rattle.wintree.specs.Plan.{Plan, depth, IsPlan}
use Rattle.wintree.specs.Text.{TreeText}

-- ---- positions

-- each position has a text
abbrev pub PositionHasText : Type 0
PositionHasText = (b : PlainBoard) → IsPosition b → (bytes : List ℕ) × IsFenText bytes b

-- and no two
abbrev pub PositionHasOneText : Type 0
PositionHasOneText = (x y : List ℕ) (b : PlainBoard) → IsFenText x b → IsFenText y b → x ≡ y

-- a text is of one board at most, whatever the game: so what is read out of a position's text is the position
abbrev pub TextHasOneBoard : Type 0
TextHasOneBoard = (bytes : List ℕ) (b c : PlainBoard) → IsFenText bytes b → IsFenText bytes c → b ≡ c

-- and has one fault at most
abbrev pub TextHasOneFault : Type 0
TextHasOneFault = (bytes : List ℕ) (f g : FenFault) → IsFenFault bytes f → IsFenFault bytes g → f ≡ g

-- and none, where it is a position's
abbrev pub NoFaultOfPosition : Type 0
NoFaultOfPosition = (bytes : List ℕ) (b : PlainBoard) (f : FenFault) → IsPosition b → IsFenText bytes b → IsFenFault bytes f → ⊥

-- the same where the side that isn't to move has to be out of check: one fault at most
abbrev pub TextHasOneSoundFault : Type 0
TextHasOneSoundFault = (bytes : List ℕ) (f g : FenFault) → IsSoundFault bytes f → IsSoundFault bytes g → f ≡ g

-- and none, where it is a sound position's
abbrev pub NoFaultOfSound : Type 0
NoFaultOfSound = (bytes : List ℕ) (b : PlainBoard) (f : FenFault) → IsPosition b → IsFenText bytes b → IsSound b → IsSoundFault bytes f → ⊥

-- ---- trees

-- each plan has its text
abbrev pub PlanHasText : Type 0
PlanHasText = (plan : Plan) → IsPlan plan → (bytes : List ℕ) × TreeText bytes plan

-- a text is of one plan at most: so what is read out of a plan's text is the plan
abbrev pub TextHasOnePlan : Type 0
TextHasOnePlan = (bytes : List ℕ) (a b : Plan) → TreeText bytes a → TreeText bytes b → a ≡ b

-- and has one fault at most, want of memory aside
abbrev pub TextHasOneTreeFault : Type 0
TextHasOneTreeFault = (bytes : List ℕ) (f g : TreeFault) → f ≢ NoMemory → g ≢ NoMemory → IsFaultOf bytes f → IsFaultOf bytes g → f ≡ g

-- the text of a plan in which at most 32 of the attacker's moves are nested has none
abbrev pub NoFaultOfTree : Type 0
NoFaultOfTree = (bytes : List ℕ) (plan : Plan) (f : TreeFault) → TreeText bytes plan → depth plan ≤ 32 → IsFaultOf bytes f → f ≡ NoMemory
