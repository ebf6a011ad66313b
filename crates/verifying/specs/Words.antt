-- The grammar of a claim's line: words, with nothing between them.
--     word = '.' | '=' | '-' | place
--     place = 'Z'* ('a'..'z' | 'A'..'X')
use Rattle.std.specs.Prelude.{ℕ, ◌+◌, ◌/◌, ◌%◌, List, [], ◌∷◌, ◌++◌, codes, replicate, nat_lt, if◌then◌else◌}
use Rattle.std.specs.List.{flat_map}
use Rattle.verifying.specs.declared.words.Word.{Word}
use Rattle.verifying.specs.declared.words.Word.TheVariants.{Seen, Claimed, Stalemated, Place}

-- the letter of a place below 50: a to z, and then A to X
abbrev pub place_letter : ℕ → ℕ
place_letter n = if nat_lt n 26 then 97 + n else 39 + n

-- a word's text; a place's has a Z for each 50, and then the letter of what is over
abbrev pub word_text : Word → List ℕ
word_text Seen = codes "."
word_text Claimed = codes "="
word_text Stalemated = codes "-"
word_text (Place n) = replicate (n / 50) 90 ++ place_letter (n % 50) ∷ []

-- the words of a line, one after another
abbrev pub words_line : List Word → List ℕ
words_line words = flat_map word_text words
