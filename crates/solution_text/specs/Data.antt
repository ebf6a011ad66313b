-- The short form of a solution as data: an object of JSON on a line. Moves are named by their squares.
use Rattle.std.specs.Prelude.{ℕ, Bool, false, List, [], ◌∷◌, ◌++◌, codes}
use Rattle.json.specs.Print.{print}
use Rattle.json.specs.Token.{end_object, begin_array, end_array, boolean, null}
use Rattle.json_data.specs.Data.{array_of, member, number_data, problem_data, value_or_null}
use Rattle.rules.specs.declared.goal.Goal.{Goal}
use Rattle.solutions.specs.Data.{key_data, try_data, variation_data}
use Rattle.solutions.specs.declared.solution.Solution.{Solution}

-- a solution, on a line: the fewest plies, whether the problem is short, the keys, and the set play and the tries where they were asked for
abbrev pub solution_data : {A : Type 0} → List ℕ → Goal → Bool → Solution A → List ℕ
solution_data fen goal sooner s =
    print (problem_data fen goal ++ (member (codes "plies") (number_data s.plies)
    ++ (member (codes "short") (boolean sooner ∷ []) ++ (member (codes "keys") (array_of key_data s.keys.items)
    ++ (member (codes "set_play") (value_or_null (λ list. array_of variation_data list.items) s.set_play)
    ++ (member (codes "tries") (value_or_null (λ list. array_of try_data list.items) s.tries) ++ end_object ∷ [])))))) ++ codes "\n"

-- that nothing is forced
abbrev pub none_data : List ℕ → Goal → List ℕ
none_data fen goal =
    print (problem_data fen goal ++ (member (codes "plies") (null ∷ []) ++ (member (codes "short") (boolean false ∷ [])
    ++ (member (codes "keys") (begin_array ∷ end_array ∷ []) ++ (member (codes "set_play") (null ∷ [])
    ++ (member (codes "tries") (null ∷ []) ++ end_object ∷ [])))))) ++ codes "\n"
