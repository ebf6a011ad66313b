-- What is told of a solution as values of JSON. Moves are named by their squares.
use Rattle.std.specs.Prelude.{List, [], ◌∷◌, ◌++◌, codes}
use Rattle.json.specs.Token.{Token, begin_object, end_object, string}
use Rattle.json_data.specs.Data.{array_of, member, move_data, number_data}
use Rattle.solutions.specs.declared.threats.Threats.{Threats}
use Rattle.solutions.specs.declared.threats.Threats.TheVariants.{End, Check, Zugzwang, Moves}
use Rattle.solutions.specs.declared.variation.Variation.{Variation}
use Rattle.solutions.specs.declared.key_play.KeyPlay.{KeyPlay}
use Rattle.solutions.specs.declared.first_try.Try.{Try}

-- what is threatened: that the game is over, or there is check, or zugzwang; or the moves, with the plies that they take
abbrev pub threats_data : {A : Type 0} → Threats A → List Token
threats_data End = string (codes "end") ∷ []
threats_data Check = string (codes "check") ∷ []
threats_data Zugzwang = string (codes "zugzwang") ∷ []
threats_data (Moves plies moves) =
    begin_object ∷ (member (codes "plies") (number_data plies) ++ (member (codes "moves") (array_of move_data moves.items) ++ end_object ∷ []))

-- a reply, the plies behind it, all continuations and the best line
abbrev pub variation_data : {A : Type 0} → Variation A → List Token
variation_data v =
    begin_object ∷ (member (codes "reply") (move_data v.reply) ++ (member (codes "plies") (number_data v.plies)
    ++ (member (codes "moves") (array_of move_data v.moves.items) ++ (member (codes "line") (array_of move_data v.line.items) ++ end_object ∷ []))))

-- a key, what it threatens and its variations
abbrev pub key_data : {A : Type 0} → KeyPlay A → List Token
key_data k =
    begin_object ∷ (member (codes "first") (move_data k.first) ++ (member (codes "threats") (threats_data k.threats)
    ++ (member (codes "variations") (array_of variation_data k.variations.items) ++ end_object ∷ [])))

-- a try and the reply that refutes it
abbrev pub try_data : Try → List Token
try_data t = begin_object ∷ (member (codes "first") (move_data t.first) ++ (member (codes "refutation") (move_data t.refutation) ++ end_object ∷ []))
