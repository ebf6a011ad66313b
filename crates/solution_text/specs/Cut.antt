-- The parts of a whole solution's text, and the text that is cut off behind some of its keys.
use Rattle.std.specs.Prelude.{◌≡◌, ℕ, List, ◌∷◌, ◌++◌, length}
use Rattle.board.specs.Board.{PlainBoard}
use Rattle.rules.specs.declared.goal.Goal.{Goal}
use Rattle.rules.specs.Squares.{Ply}
use Rattle.problems.specs.Answer.{IsFewest}
use Rattle.algebraic.specs.declared.naming.Notation.{Notation}
use Rattle.algebraic.specs.declared.symbols.Symbols.{Symbols}
use Rattle.solutions.specs.declared.extras.Extras.{Extras}
use Rattle.solutions.specs.Lines.{ListsContinuations}
use Rattle.solution_text.specs.Text.{headline}
use Rattle.solution_text.specs.WholeText.{held_against}
use Rattle.solution_text.specs.Telling.{TellsKeys, TellsSetPlay, TellsTries}

-- where n plies are the fewest, what stands before the keys, which are these: the headline, and the set play and the tries where asked for
abbrev pub IsBeginning : Notation → PlainBoard → ℕ → Extras → List Ply → List ℕ → Type 0
IsBeginning notation b n extras keys text =
    IsFewest notation.goal b n × ListsContinuations notation.goal b n keys
    × (set_play : List ℕ) × TellsSetPlay notation b n extras.set_play set_play
    × (tries : List ℕ) × TellsTries notation b n extras.tries tries
    × (text ≡ headline notation.goal extras.sooner n (length keys) ++ (set_play ++ tries))

-- the beginning of a whole solution's text: what stands before the keys, and the first of these, each with its play; at least one is left
abbrev pub IsCutSolution : Symbols → Goal → PlainBoard → Extras → List ℕ → Type 0
IsCutSolution symbols goal b extras text =
    (n : ℕ) × (told : List Ply) × (next : Ply) × (others : List Ply)
    × (beginning : List ℕ) × IsBeginning (record { symbols = symbols; goal = goal }) b n extras (told ++ next ∷ others) beginning
    × (keys : List ℕ) × TellsKeys (record { symbols = symbols; goal = goal }) (held_against b n extras.set_play) b n told keys
    × (text ≡ beginning ++ keys)
