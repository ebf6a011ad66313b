-- What stands in JSON as a value: as tokens, which the kit's writer prints.
use Rattle.std.specs.Prelude.{◌≡◌, ℕ, List, [], ◌∷◌, ◌++◌, Option, None, Some, codes, flat_map}
use Rattle.std.specs.Fmt.{decimal}
use Rattle.json.specs.Token.{Token, begin_object, end_object, begin_array, end_array, key, string, number, null}
use Rattle.json.specs.Written.{Written}
use Rattle.rules.specs.declared.goal.Goal.{Goal}
use Rattle.rules.specs.declared.goal.Goal.TheVariants.{Mate, MateOrStale}
use Rattle.rules.specs.MoveText.{move_text}
use Rattle.rules.specs.Squares.{Ply}
use Rattle.problems.specs.declared.key.Key.{Key}

-- behind what a writer has written stand these tokens too
pub record Appends (old new : Written) (more : List Token) : Type 0 where
  pub before : new.before ≡ old.before
  pub tokens : new.tokens ≡ old.tokens ++ more

-- a member of an object: its name and its value
abbrev pub member : List ℕ → List Token → List Token
member name value = key name ∷ value

-- an array of these
abbrev pub array_of : {X : Type 0} → (X → List Token) → List X → List Token
array_of tokens xs = begin_array ∷ (flat_map tokens xs ++ end_array ∷ [])

-- a value, or null where there is none
abbrev pub value_or_null : {X : Type 0} → (X → List Token) → Option X → List Token
value_or_null tokens None = null ∷ []
value_or_null tokens (Some x) = tokens x

-- a number in decimal
abbrev pub number_data : ℕ → List Token
number_data n = number (decimal n) ∷ []

-- a move, as `"c4c5"`
abbrev pub move_data : Ply → List Token
move_data m = string (move_text m) ∷ []

-- the goal's word
abbrev pub goal_data : Goal → List Token
goal_data Mate = string (codes "mate") ∷ []
goal_data MateOrStale = string (codes "stale") ∷ []

-- the beginning of an object: the position's text and the goal
abbrev pub problem_data : List ℕ → Goal → List Token
problem_data fen goal = begin_object ∷ (member (codes "position") (string fen ∷ []) ++ member (codes "goal") (goal_data goal))

-- a key and the plies that it takes
abbrev pub key_object : Key → List Token
key_object k = begin_object ∷ (member (codes "first") (move_data k.first) ++ (member (codes "plies") (number_data k.plies) ++ end_object ∷ []))
