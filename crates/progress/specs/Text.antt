-- The text of a sign of life.
use Rattle.std.specs.Prelude.{ℕ, Bool, true, false, List, [], ◌∷◌, ◌++◌, Option, None, Some, codes}
use Rattle.std.specs.Fmt.{decimal}
use Rattle.rules.specs.MoveText.{move_text}
use Rattle.progress.specs.declared.sign.Sign.{Sign}
use Rattle.progress.specs.declared.sign.Work.{Work}
use Rattle.progress.specs.declared.sign.Work.TheVariants.{Open, Wins}

-- the number of the line in a batch, as `line 7, `
abbrev pub line_text : Option ℕ → List ℕ
line_text None = []
line_text (Some n) = codes "line " ++ (decimal n ++ codes ", ")

-- the plies that hold nothing, as `none within 9`
abbrev pub nothing_text : ℕ → List ℕ
nothing_text plies = codes "none within " ++ decimal plies

-- the same, where a round has ended so
abbrev pub held_text : Option ℕ → List ℕ
held_text None = []
held_text (Some plies) = nothing_text plies ++ codes ", "

-- the least job that isn't decided yet, as `move 14 of 31, c4c5`, or that one wins, as `c4c5 wins`
abbrev pub work_text : Work → List ℕ
work_text (Open number jobs first) = codes "move " ++ (decimal number ++ (codes " of " ++ (decimal jobs ++ (codes ", " ++ move_text first))))
work_text (Wins first) = move_text first ++ codes " wins"

-- that a greater table may serve, where that is advised
abbrev pub advice_text : Bool → List ℕ
advice_text true = codes "; --slots 1048573 may be faster"
advice_text false = []

-- the whole sign, as `12 s, none within 9, round 11: move 14 of 31, c4c5`
abbrev pub sign_text : Sign → List ℕ
sign_text sign = decimal sign.seconds ++ (codes " s, " ++ (line_text sign.line ++ (held_text sign.none
    ++ (codes "round " ++ (decimal sign.round ++ (codes ": " ++ (work_text sign.work ++ advice_text sign.advises)))))))

-- the code that clears a line from the cursor to its end
abbrev pub clear : List ℕ
clear = 27 ∷ 91 ∷ 75 ∷ []

-- what begins a line anew, of which a terminal shows no more than its width
abbrev pub begin : List ℕ
begin = 13 ∷ 27 ∷ codes "[?7l"

-- what clears the rest of the line, and lets later lines be wrapped again
abbrev pub end : List ℕ
end = 27 ∷ 91 ∷ 75 ∷ 27 ∷ codes "[?7h"

-- a text drawn over what the line holds, cut off at the terminal's width
abbrev pub drawn_text : List ℕ → List ℕ
drawn_text text = begin ++ (text ++ end)

-- what a round that ended with nothing leaves behind, on a line of its own
abbrev pub left_text : Option ℕ → ℕ → List ℕ
left_text line plies = 13 ∷ (line_text line ++ (nothing_text plies ++ (clear ++ 10 ∷ [])))
