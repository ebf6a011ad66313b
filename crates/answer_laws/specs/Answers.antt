-- Laws of answers and keys.
use Rattle.std.specs.Prelude.{◌≡◌, ◌⊎◌, ℕ, ◌<◌, nat_lt, if◌then◌else◌, List, [], ◌∷◌, Contains, Option, None, Some}
use Rattle.board.specs.Board.{PlainBoard}
use Rattle.rules.specs.declared.goal.Goal.{Goal}
use Rattle.rules.specs.Squares.{Ply}
use Rattle.rules.specs.Order.{IsPlyBefore}
use Rattle.problems.specs.declared.answer.Answer.{Answer}
use Rattle.problems.specs.declared.answer.Answer.TheVariants.{Mate, NoneWithin}
use Rattle.problems.specs.Answer.{IsAnswer}
use Rattle.problems.specs.declared.key.Key.{Key}
use Rattle.problems.specs.Keys.{ListsKeys}

-- a question has one answer
abbrev pub OneAnswer : Type 0
OneAnswer = (goal : Goal) (b : PlainBoard) (limit : ℕ) (x y : Answer) → IsAnswer goal b limit x → IsAnswer goal b limit y → x ≡ y

-- and one list of keys
abbrev pub OneListOfKeys : Type 0
OneListOfKeys = (goal : Goal) (b : PlainBoard) (limit : ℕ) (x y : List Key) → ListsKeys goal b limit x → ListsKeys goal b limit y → x ≡ y

-- of a key and one behind it, if there is one, the one that takes fewer plies, or where they take as many, the first
abbrev pub sooner : Key → Option Key → Key
sooner key None = key
sooner key (Some later) = if nat_lt later.plies key.plies then later else key

-- the first of the keys that take the fewest plies
abbrev pub soonest : List Key → Option Key
soonest [] = None
soonest (key ∷ keys) = Some (sooner key (soonest keys))

-- the answer that has this first move and these plies, or that nothing is forced
abbrev pub answer_by_soonest : ℕ → Option Key → Answer
answer_by_soonest limit None = NoneWithin limit
answer_by_soonest limit (Some key) = Mate key.plies key.first

-- the answer is the first of the keys that take the fewest plies, or where there is no key, that nothing is forced
abbrev pub AnswerOfKeys : Type 0
AnswerOfKeys = (goal : Goal) (b : PlainBoard) (limit : ℕ) (keys : List Key) → ListsKeys goal b limit keys → IsAnswer goal b limit (answer_by_soonest limit (soonest keys))

-- the key takes more plies than these; or as many, and it begins with this move or with a later one
abbrev pub IsNoBetter : PlainBoard → ℕ → Ply → Key → Type 0
IsNoBetter b plies first key = (plies < key.plies) ⊎ ((plies ≡ key.plies) × ((key.first ≡ first) ⊎ IsPlyBefore b.game first key.first))

-- the answer's first move is a key with the answer's plies, and no key is better
abbrev pub FirstMoveIsKey : Type 0
FirstMoveIsKey = (goal : Goal) (b : PlainBoard) (limit plies : ℕ) (first : Ply) (keys : List Key) → IsAnswer goal b limit (Mate plies first) → ListsKeys goal b limit keys
    → Contains keys (record { first = first; plies = plies }) × ((key : Key) → Contains keys key → IsNoBetter b plies first key)
