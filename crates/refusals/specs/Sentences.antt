-- What standard error is told.
use Rattle.std.specs.Prelude.{ℕ, Bool, true, false, ◌==◌, if◌then◌else◌, List, [], ◌∷◌, ◌++◌, codes, Option, Some, None, IfSome}
use Rattle.std.specs.Fmt.{decimal}
use Rattle.std.specs.Io.KnownBytes.{Appends}
use Rattle.board.specs.declared.game.Side.{Side}
use Rattle.board.specs.declared.game.Side.TheVariants.{White, Black}
use Rattle.refusals.specs.declared.advice.Asking.{Asking}
use Rattle.refusals.specs.declared.advice.Asking.TheVariants.{Search, Line, Proof, Plain}
use Rattle.refusals.specs.declared.refusal.Refusal.{Refusal}
use Rattle.refusals.specs.declared.refusal.Refusal.TheVariants.{Move, Limit, Workers, Slots, TooLong, Grammar, Deep, Claim, NoMemory}

-- some text is appended to known bytes
pub record AppendsText (old new : Option (List ℕ)) : Type 0 where
  pub text : List ℕ
  pub appended : Appends old new text

-- a sentence on a line of its own, behind what a line begins with
abbrev pub line_behind : List ℕ → List ℕ → List ℕ
line_behind beginning sentence = beginning ++ (sentence ++ 10 ∷ [])

-- such a line is appended, with some sentence
pub record AppendsLine (beginning : List ℕ) (old new : Option (List ℕ)) : Type 0 where
  pub sentence : List ℕ
  pub appended : Appends old new (line_behind beginning sentence)

-- what an error's line begins with
abbrev pub error_beginning : List ℕ
error_beginning = codes "error: "

-- the number of a line
abbrev pub number_text : ℕ → List ℕ
number_text number = codes "line " ++ (decimal number ++ codes ": ")

-- the same, where there is one
abbrev pub place_text : Option ℕ → List ℕ
place_text None = []
place_text (Some number) = number_text number

-- what the line of a refusal begins with: in a batch with the number of the line
abbrev pub beginning_of : Asking → List ℕ
beginning_of (Line number) = error_beginning ++ number_text number
beginning_of _ = error_beginning

-- a range that has no value, in the line of a batch and elsewhere
abbrev pub limit_sentence : Asking → List ℕ
limit_sentence (Line _) = codes "after ; dm a line has its number of moves: write one from 1 to 32"
limit_sentence _ = codes "--limit is 1 to 63 plies: a mate in M moves is --limit 2M-1, or --mate M, 1 to 32"

-- a text that is too long, as a line of a batch and elsewhere
abbrev pub length_sentence : Asking → List ℕ
length_sentence (Line _) = codes "a line has at most 256 bytes"
length_sentence _ = codes "a tree has at most 1048576 bytes, its line feed counted, and a line of a certificate 8192"

-- want of memory, by what was asked
abbrev pub memory_sentence : Asking → List ℕ
memory_sentence Search = codes "out of memory: a search takes less with fewer --slots or --workers"
memory_sentence (Line _) = codes "out of memory: a search takes less with fewer --slots or --workers"
memory_sentence (Proof _ _) = codes "out of memory: the checker keeps each claim of a certificate, so give the process more memory"
memory_sentence Plain = codes "out of memory: give the process more"

-- a text that is no tree's behind so many bytes
abbrev pub grammar_sentence : ℕ → List ℕ
grammar_sentence offset =
    if offset == 0 then codes "the input doesn't begin with a move: if `tree` printed no tree, there is none to check; a byte order mark is no part of a tree"
    else codes "after its first " ++ (decimal offset
    ++ codes " bytes the input is no tree: a tree is a move and then #, = or the replies, as c4c5{a6a5:b1a1#}, and at most one line feed, without a carriage return")

-- the sentence of a refusal, where it rests on no text that was read
abbrev pub sentence_of : Refusal → Asking → Option (List ℕ)
sentence_of Move _ = Some (codes "no lawful move has this name: a move is two squares and what a pawn becomes, as c4c5q")
sentence_of Limit asking = Some (limit_sentence asking)
sentence_of Workers _ = Some (codes "--workers is 1 to 16")
sentence_of Slots _ = Some (codes "--slots is 1 to 1048576")
sentence_of TooLong asking = Some (length_sentence asking)
sentence_of (Grammar offset) _ = Some (grammar_sentence offset)
sentence_of Deep _ = Some (codes "more than 32 moves of the attacker are nested: no tree of 63 plies needs so many")
sentence_of (Claim _) _ = Some (codes "this line is missing, isn't a claim, or is false for this position and goal")
sentence_of NoMemory asking = Some (memory_sentence asking)
sentence_of _ _ = None

-- that sentence is appended, where there is one
abbrev pub AppendsSentence : Refusal → Asking → Option (List ℕ) → Option (List ℕ) → Type 0
AppendsSentence refusal asking old new = IfSome (sentence_of refusal asking) (Appends old new)

-- the same on a line of its own
abbrev pub AppendsSentenceLine : Refusal → Asking → Option (List ℕ) → Option (List ℕ) → Type 0
AppendsSentenceLine refusal asking old new =
    IfSome (sentence_of refusal asking) (λ sentence. Appends old new (line_behind (beginning_of asking) sentence))

-- what is said of a search that has both limits, or none
abbrev pub limits_text : Bool → List ℕ
limits_text true = codes "error: --limit and --mate say the same: leave one of them out\n"
limits_text false = codes "error: a search has a limit: add --limit 3, in plies, or --mate 2, in moves\n"

-- the side that is to move, in a word
abbrev pub side_text : Side → List ℕ
side_text White = codes "White"
side_text Black = codes "Black"

-- what is said of a side that has no move, and in a batch of which line
abbrev pub over_text : Option ℕ → Side → List ℕ → List ℕ
over_text line side what = place_text line ++ (side_text side ++ (codes " is " ++ (what ++ codes " already\n")))
