-- Where bytes go wrong as a tree's text. Nesting is unlimited here: a plan may be of any depth.
use Rattle.std.specs.Prelude.{◌≡◌, ℕ, ◌-◌, ◌≤◌, List, ◌++◌, length, take, count_by, ◌==◌}
use Rattle.wintree.specs.Plan.{Plan}
use Rattle.wintree.specs.Text.{TreeText}
use Rattle.wintree.specs.declared.fault.TreeFault.{TreeFault}
use Rattle.wintree.specs.declared.fault.TreeFault.TheVariants.{Grammar, Deep, NoMemory}

-- the bytes are some tree's text
abbrev pub IsText : List ℕ → Type 0
IsText bytes = (plan : Plan) × TreeText bytes plan

-- the bytes begin some text
abbrev pub BeginsText : List ℕ → Type 0
BeginsText bytes = (rest : List ℕ) × IsText (bytes ++ rest)

-- g is the length of the longest beginning of the bytes that begins some text
pub record IsFarthest (bytes : List ℕ) (g : ℕ) : Type 0 where
  pub within : g ≤ length bytes
  pub begins : BeginsText (take g bytes)
  pub longest : (k : ℕ) → k ≤ length bytes → BeginsText (take k bytes) → k ≤ g

-- how many braces the bytes leave open
abbrev pub open_braces : List ℕ → ℕ
open_braces bytes = count_by (λ b. b == 123) bytes - count_by (λ b. b == 125) bytes

-- some beginning of the bytes begins a text and leaves 32 braces open
abbrev pub IsDeep : List ℕ → Type 0
IsDeep bytes = (k : ℕ) × (k ≤ length bytes) × BeginsText (take k bytes) × (open_braces (take k bytes) ≡ 32)

-- which fault it is, memory aside
abbrev pub IsFaultOf : List ℕ → TreeFault → Type 0
IsFaultOf bytes (Grammar g) = IsFarthest bytes g × ¬ IsDeep bytes × ¬ IsText bytes
IsFaultOf bytes Deep = IsDeep bytes
IsFaultOf bytes NoMemory = Unit {0}
