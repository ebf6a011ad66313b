-- How what was found of a position, or why nothing was, is written: on a line as `solve` does, or as JSON.
use Rattle.std.specs.Prelude.{◌≡◌, ℕ, Bool, true, false, List, [], ◌∷◌, ◌++◌, Option, None, Some, MatchBool, codes}
use Rattle.std.specs.List.{flat_map}
use Rattle.std.specs.Str.Lossy.{utf8_lossy}
use Rattle.std.specs.Fmt.{decimal}
use Rattle.json.specs.Print.{print}
use Rattle.json.specs.Token.{Token, begin_object, end_object, string, boolean, null}
use Rattle.json_data.specs.Data.{array_of, key_object, member, move_data, number_data, problem_data, value_or_null}
use Rattle.rules.specs.declared.goal.Goal.{Goal}
use Rattle.rules.specs.declared.goal.Goal.TheVariants as goal
use Rattle.rules.specs.MoveText.{move_text}
use Rattle.problems.specs.declared.answer.Answer.{Answer as TheAnswer}
use Rattle.problems.specs.declared.answer.Answer.TheVariants.{Mate, NoneWithin}
use Rattle.problems.specs.declared.key.Key.{Key}
use Rattle.devices.specs.Input.{without_line_feed}
use Rattle.refusals.specs.Refusal.{refusal_text}
use Rattle.refusals.specs.Reply.{line_of, refused}
use Rattle.refusals.specs.declared.refusal.Refusal.{Refusal}
use Rattle.answer_texts.specs.Answers.{answer_text, none_text}
use Rattle.batch_texts.specs.declared.asked.Asked.{Asked}
use Rattle.batch_texts.specs.declared.asked.Batch.{Batch}
use Rattle.batch_texts.specs.declared.asked.Found.{Found}
use Rattle.batch_texts.specs.declared.asked.Found.TheVariants.{Answer, Keys}
use Rattle.batch_texts.specs.Asking.{IsJudged, limit_of}

-- ---- lines

-- a key with the plies that it takes, as `c4c5 3`
abbrev pub key_item : Key → List ℕ
key_item key = move_text key.first ++ (codes " " ++ decimal key.plies)

-- the keys, parted by commas
abbrev pub keys_listed : List Key → List ℕ
keys_listed [] = []
keys_listed (first ∷ keys) = key_item first ++ flat_map (λ key. codes "," ++ key_item key) keys

-- the keys on one line, or that nothing is forced within the limit
abbrev pub keys_line : ℕ → List Key → List ℕ
keys_line limit [] = none_text limit
keys_line limit (first ∷ keys) = line_of (keys_listed (first ∷ keys))

-- the line of what was found
abbrev pub found_line : Goal → ℕ → Found → List ℕ
found_line goal limit (Answer answer) = answer_text goal answer
found_line goal limit (Keys keys) = keys_line limit keys.items

-- a line and behind it whether the moves that were said are those: ` ok` or ` differs`, where some were said
abbrev pub judged_line : Option Bool → List ℕ → List ℕ
judged_line None line = line
judged_line (Some true) line = without_line_feed line ++ codes " ok\n"
judged_line (Some false) line = without_line_feed line ++ codes " differs\n"

-- ---- JSON

-- the first word of an answer's line
abbrev pub answer_word : Goal → List ℕ
answer_word goal.Mate = codes "mate"
answer_word goal.MateOrStale = codes "goal"

-- an answer: its word, its plies and its first move, which are null where there is none
abbrev pub answer_members : Goal → TheAnswer → List Token
answer_members goal (Mate plies first) =
    member (codes "answer") (string (answer_word goal) ∷ []) ++ (member (codes "plies") (number_data plies) ++ member (codes "first") (move_data first))
answer_members goal (NoneWithin limit) =
    member (codes "answer") (string (codes "none") ∷ []) ++ (member (codes "plies") (null ∷ []) ++ member (codes "first") (null ∷ []))

-- an answer's members, or the list of the keys
abbrev pub found_members : Goal → Found → List Token
found_members goal (Answer answer) = answer_members goal answer
found_members goal (Keys keys) = member (codes "keys") (array_of key_object keys.items)

-- whether the moves that were said are those, where some were said
abbrev pub judged_member : Option Bool → List Token
judged_member None = []
judged_member (Some agrees) = member (codes "ok") (boolean agrees ∷ [])

-- on a line, the position, the goal, the plies of the limit, what was found, and whether the moves that were said are those
abbrev pub found_object : List ℕ → Goal → ℕ → Found → Option Bool → List ℕ
found_object fen goal limit found agrees =
    print (problem_data (utf8_lossy fen) goal ++ (member (codes "limit") (number_data limit) ++ (found_members goal found
    ++ (judged_member agrees ++ end_object ∷ [])))) ++ codes "\n"

-- a line's position, whose bytes that are no UTF-8 are replaced, or null where it was too long to be kept
abbrev pub position_data : Option (List ℕ) → List Token
position_data = value_or_null (λ fen. string (utf8_lossy fen) ∷ [])

-- on a line, the position, the refusal's name, and a sentence on it
abbrev pub refused_object : Option (List ℕ) → Refusal → List ℕ → List ℕ
refused_object fen why sentence =
    print (begin_object ∷ (member (codes "position") (position_data fen) ++ (member (codes "refused") (string (refusal_text why) ∷ [])
    ++ (member (codes "sentence") (string sentence ∷ []) ++ end_object ∷ [])))) ++ codes "\n"

-- ---- what is written

-- what is written of what was found
abbrev pub IsFoundText : Batch → Asked → Found → List ℕ → Type 0
IsFoundText batch asked found text =
    let limit = limit_of batch.limits.limit asked.moves in
    (agrees : Option Bool) × IsJudged asked.moves found agrees
    × MatchBool batch.options.json
    (text ≡ found_object asked.fen.now batch.goal limit found agrees)
    (text ≡ judged_line agrees (found_line batch.goal limit found))

-- what is written for a refusal: its name, and as JSON some sentence too
abbrev pub IsRefusalText : Bool → Option (List ℕ) → Refusal → List ℕ → Type 0
IsRefusalText false fen why text = text ≡ (refused why).text
IsRefusalText true fen why text = (sentence : List ℕ) × (text ≡ refused_object fen why (utf8_lossy sentence))
