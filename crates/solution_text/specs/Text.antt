-- The text of a solution. The attacker's moves are numbered from 1, and a reply that begins a line stands behind `1...`.
use Rattle.std.specs.Prelude.{◌≡◌, ℕ, zero, suc, ◌+◌, ◌/◌, List, [], ◌∷◌, ◌++◌, Option, None, Some, Bool, true, false, length, codes}
use Rattle.std.specs.Fmt.{decimal}
use Rattle.board.specs.Board.{PlainBoard}
use Rattle.rules.specs.declared.goal.Goal.{Goal}
use Rattle.rules.specs.declared.goal.Goal.TheVariants.{Mate, MateOrStale}
use Rattle.rules.specs.Squares.{Ply}
use Rattle.rules.specs.Moves.{IsMove}
use Rattle.algebraic.specs.declared.name.Name.{Name}
use Rattle.algebraic.specs.declared.naming.Notation.{Notation}
use Rattle.algebraic.specs.Text.{name_text}
use Rattle.algebraic.specs.Naming.{IsName}
use Rattle.solutions.specs.declared.threats.Threats.{Threats}
use Rattle.solutions.specs.declared.threats.Threats.TheVariants.{End, Check, Zugzwang, Moves}
use Rattle.solutions.specs.declared.variation.Variation.{Variation}
use Rattle.solutions.specs.declared.key_play.KeyPlay.{KeyPlay}
use Rattle.solutions.specs.declared.first_try.Try.{Try}
use Rattle.solutions.specs.declared.solution.Solution.{Solution}
use Rattle.solutions.specs.Solutions.{passed}

-- the texts of all, one behind the other
abbrev pub AreTexts : {X : Type 0} → (X → List ℕ → Type 0) → List X → List ℕ → Type 0
AreTexts P [] text = text ≡ []
AreTexts P (x ∷ xs) text = (first : List ℕ) × (rest : List ℕ) × P x first × AreTexts P xs rest × (text ≡ first ++ rest)

-- ---- lines and variations

-- the attacker's move of this number, behind a blank, as ` 2.Qa2#`
abbrev pub IsNumbered : Notation → ℕ → PlainBoard → Ply → List ℕ → Type 0
IsNumbered notation number b m text =
    (name : Name) × IsName notation b m name × (text ≡ codes " " ++ (decimal number ++ (codes "." ++ name_text name)))

-- a line from the attacker's move of this number, as ` 2.Qc4+ Ka5 3.Qa4#`
abbrev pub IsLineText : Notation → ℕ → PlainBoard → List Ply → List ℕ → Type 0
IsLineText notation number b [] text = text ≡ []
IsLineText notation number b (m ∷ []) text =
    (attack : Name) × IsName notation b m attack × (text ≡ codes " " ++ (decimal number ++ (codes "." ++ name_text attack)))
IsLineText notation number b (m ∷ r ∷ line) text =
    (q : PlainBoard) × IsMove b m q × (p : PlainBoard) × IsMove q r p
    × (attack : Name) × IsName notation b m attack × (reply : Name) × IsName notation q r reply
    × (rest : List ℕ) × IsLineText notation (number + 1) p line rest
    × (text ≡ codes " " ++ (decimal number ++ (codes "." ++ (name_text attack ++ (codes " " ++ (name_text reply ++ rest))))))

-- the duals: all continuations but the first, as `, dual 2.Qd4+ 2.Rb1+`
abbrev pub AreDualsText : Notation → ℕ → PlainBoard → List Ply → List ℕ → Type 0
AreDualsText notation number b [] text = text ≡ []
AreDualsText notation number b (m ∷ []) text = text ≡ []
AreDualsText notation number b (m ∷ l ∷ others) text =
    (duals : List ℕ) × AreTexts (IsNumbered notation number b) (l ∷ others) duals × (text ≡ codes ", dual" ++ duals)

-- a variation, on a line of its own, as `  1...Kc5 2.Qa3+ Kb5 3.Qa4#, dual 2.Qd4+`
abbrev pub IsVariationText : {A : Type 0} → Notation → PlainBoard → Variation A → List ℕ → Type 0
IsVariationText notation q v text =
    (p : PlainBoard) × IsMove q v.reply p × (reply : Name) × IsName notation q v.reply reply
    × (line : List ℕ) × IsLineText notation 2 p v.line.items line
    × (duals : List ℕ) × AreDualsText notation 2 p v.moves.items duals
    × (text ≡ codes "  1..." ++ (name_text reply ++ (line ++ (duals ++ codes "\n"))))

-- ---- keys, set play and tries

-- ` threat` before one move, ` threats` before several
abbrev pub threat_word : List Ply → List ℕ
threat_word (m ∷ []) = codes " threat"
threat_word _ = codes " threats"

-- what is threatened with the attacker's move of this number by a move that leads to q, as ` threat 2.Qa2#`
abbrev pub AreThreatsText : {A : Type 0} → Notation → ℕ → PlainBoard → Threats A → List ℕ → Type 0
AreThreatsText notation number q End text = text ≡ []
AreThreatsText notation number q Check text = text ≡ []
AreThreatsText notation number q Zugzwang text = text ≡ codes " zugzwang"
AreThreatsText notation number q (Moves plies moves) text =
    (threats : List ℕ) × AreTexts (IsNumbered notation number (passed q)) moves.items threats × (text ≡ threat_word moves.items ++ threats)

-- a key with its threats, as `1.Rb1! threat 2.Qa2#`, and its variations
abbrev pub IsKeyText : {A : Type 0} → Notation → PlainBoard → KeyPlay A → List ℕ → Type 0
IsKeyText notation b k text =
    (q : PlainBoard) × IsMove b k.first q × (key : Name) × IsName notation b k.first key
    × (threats : List ℕ) × AreThreatsText notation 2 q k.threats threats
    × (variations : List ℕ) × AreTexts (IsVariationText notation q) k.variations.items variations
    × (text ≡ codes "1." ++ (name_text key ++ (codes "!" ++ (threats ++ (codes "\n" ++ variations)))))

-- the set play, under a heading
abbrev pub IsSetPlayText : {A : Type 0} → Notation → PlainBoard → List (Variation A) → List ℕ → Type 0
IsSetPlayText notation b [] text = text ≡ codes "no set play\n"
IsSetPlayText notation b (v ∷ others) text =
    (variations : List ℕ) × AreTexts (IsVariationText notation (passed b)) (v ∷ others) variations × (text ≡ codes "set play\n" ++ variations)

-- a try and what refutes it, as `1.Ra2? Kb8!`
abbrev pub IsTryText : Notation → PlainBoard → Try → List ℕ → Type 0
IsTryText notation b t text =
    (q : PlainBoard) × IsMove b t.first q × (first : Name) × IsName notation b t.first first × (refutation : Name) × IsName notation q t.refutation refutation
    × (text ≡ codes "1." ++ (name_text first ++ (codes "? " ++ (name_text refutation ++ codes "!\n"))))

-- the tries, under a heading
abbrev pub AreTriesText : Notation → PlainBoard → List Try → List ℕ → Type 0
AreTriesText notation b [] text = text ≡ codes "no tries\n"
AreTriesText notation b (t ∷ others) text =
    (tries : List ℕ) × AreTexts (IsTryText notation b) (t ∷ others) tries × (text ≡ codes "tries\n" ++ tries)

-- the text of what was asked for
abbrev pub IsTextOf : {X : Type 0} → (X → List ℕ → Type 0) → Option X → List ℕ → Type 0
IsTextOf P None text = text ≡ []
IsTextOf P (Some x) text = P x text

-- ---- the whole

-- what is said of a goal: `mate`, or `goal` where stalemate is as good
abbrev pub headline_word : Goal → List ℕ
headline_word Mate = codes "mate"
headline_word MateOrStale = codes "goal"

-- that keys beside the author's solve the problem too, and how many
abbrev pub cooked_text : ℕ → List ℕ
cooked_text (suc (suc zero)) = codes ", cooked by 1 key"
cooked_text (suc (suc (suc n))) = codes ", cooked by " ++ (decimal (suc (suc n)) ++ codes " keys")
cooked_text _ = []

-- what is wrong with the problem: it is short, where more moves were asked for, or it is cooked
abbrev pub noted_text : Bool → ℕ → List ℕ
noted_text true keys = codes ", short"
noted_text false keys = cooked_text keys

-- in how many moves of the attacker, as `mate in 3`
abbrev pub headline : Goal → Bool → ℕ → ℕ → List ℕ
headline goal sooner plies keys = headline_word goal ++ (codes " in " ++ (decimal ((plies + 1) / 2) ++ (noted_text sooner keys ++ codes "\n")))

-- the headline, the set play and the tries where they were asked for, and the keys
abbrev pub IsSolutionText : {A : Type 0} → Notation → PlainBoard → Bool → Solution A → List ℕ → Type 0
IsSolutionText notation b sooner s text =
    (set_play : List ℕ) × IsTextOf (λ list. IsSetPlayText notation b list.items) s.set_play set_play
    × (tries : List ℕ) × IsTextOf (λ list. AreTriesText notation b list.items) s.tries tries
    × (keys : List ℕ) × AreTexts (IsKeyText notation b) s.keys.items keys
    × (text ≡ headline notation.goal sooner s.plies (length s.keys.items) ++ (set_play ++ (tries ++ keys)))
