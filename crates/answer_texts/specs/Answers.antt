-- The texts of answers.
use Rattle.std.specs.Prelude.{ℕ, List, [], ◌∷◌, ◌++◌, Option, None, Some, codes}
use Rattle.std.specs.List.{flat_map}
use Rattle.std.specs.Fmt.{decimal}
use Rattle.rules.specs.declared.goal.Goal.{Goal}
use Rattle.rules.specs.declared.goal.Goal.TheVariants as goal
use Rattle.rules.specs.MoveText.{move_text}
use Rattle.rules.specs.Squares.{Ply}
use Rattle.problems.specs.declared.answer.Answer.{Answer}
use Rattle.problems.specs.declared.answer.Answer.TheVariants.{Mate, NoneWithin}
use Rattle.problems.specs.declared.key.Key.{Key}
use Rattle.refusals.specs.Reply.{line_of}

-- that nothing is forced within the limit, as `none within 1`
abbrev pub none_text : ℕ → List ℕ
none_text limit = line_of (codes "none within " ++ decimal limit)

-- the plies and the first move, as `mate 1 f1f6`, or `goal 1 b1b5` where stalemate is good too; or `none within 1`
abbrev pub answer_text : Goal → Answer → List ℕ
answer_text goal.Mate (Mate plies first) = codes "mate " ++ (decimal plies ++ (codes " " ++ line_of (move_text first)))
answer_text goal.MateOrStale (Mate plies first) = codes "goal " ++ (decimal plies ++ (codes " " ++ line_of (move_text first)))
answer_text goal (NoneWithin limit) = none_text limit

-- a key on a line of its own, with the plies that it takes, as `c4c5 3`
abbrev pub key_text : Key → List ℕ
key_text key = move_text key.first ++ (codes " " ++ line_of (decimal key.plies))

-- each key, or that nothing is forced within the limit
abbrev pub keys_text : ℕ → List Key → List ℕ
keys_text limit [] = none_text limit
keys_text limit (key ∷ keys) = flat_map key_text (key ∷ keys)

-- each move on a line of its own
abbrev pub moves_text : List Ply → List ℕ
moves_text moves = flat_map (λ m. line_of (move_text m)) moves

-- in how many plies a tree wins, as `yes 3`, or `no`
abbrev pub checked_text : Option ℕ → List ℕ
checked_text None = line_of (codes "no")
checked_text (Some plies) = line_of (codes "yes " ++ decimal plies)
