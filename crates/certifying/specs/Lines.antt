-- The lines of claims.
use Rattle.std.specs.Prelude.{ℕ, List, [], ◌∷◌, ◌++◌}
use Rattle.std.specs.List.{flat_map}
use Rattle.verifying.specs.Words.{words_line}
use Rattle.verifying.specs.declared.words.Word.{Word}

-- a line of words, with its feed
abbrev pub claim_line : List Word → List ℕ
claim_line words = words_line words ++ 10 ∷ []

-- lines, one after another
abbrev pub claim_lines : List (List Word) → List ℕ
claim_lines lines = flat_map claim_line lines
