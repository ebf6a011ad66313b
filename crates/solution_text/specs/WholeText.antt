-- The text of a whole solution. Each reply stands on a line of its own, two blanks farther in for each move of the attacker before it.
use Rattle.std.specs.Prelude.{◌≡◌, ℕ, zero, suc, ◌+◌, ◌⊎◌, List, [], ◌∷◌, ◌++◌, Option, None, Some, Bool, true, false, length, codes}
use Rattle.std.specs.Fmt.{decimal}
use Rattle.board.specs.Board.{PlainBoard}
use Rattle.rules.specs.declared.goal.Goal.{Goal}
use Rattle.rules.specs.Squares.{Ply}
use Rattle.rules.specs.Moves.{IsMove}
use Rattle.algebraic.specs.declared.name.Name.{Name}
use Rattle.algebraic.specs.declared.naming.Notation.{Notation}
use Rattle.algebraic.specs.declared.symbols.Symbols.{Symbols}
use Rattle.algebraic.specs.Text.{name_text}
use Rattle.algebraic.specs.Naming.{IsName}
use Rattle.solutions.specs.declared.extras.Extras.{Extras}
use Rattle.solutions.specs.declared.first_try.Try.{Try}
use Rattle.solutions.specs.Solutions.{passed}
use Rattle.solutions.specs.Changes.{IsSetMove, IsChanged}
use Rattle.problems.specs.Answer.{IsFewest}
use Rattle.solutions.specs.Whole.{Sequel, sequel, Play, play, Threat, over, check, zugzwang, short, long, Sequels, done, more, FirstPlay, key, refuted, stalemate, IsPlayedFirst, Whole, IsComplete}
use Rattle.solution_text.specs.declared.posed.Posed.{Posed}
use Rattle.solution_text.specs.Text.{AreTexts, IsNumbered, AreDualsText, threat_word, IsTextOf, headline}

-- two blanks for each
abbrev pub indent : ℕ → List ℕ
indent zero = []
indent (suc n) = indent n ++ codes "  "

-- the moves that are threatened, as ` threats 2.Kc4 2.Kd4`
abbrev pub AreThreatened : Notation → ℕ → PlainBoard → List Ply → List ℕ → Type 0
AreThreatened notation number q moves text =
    (threats : List ℕ) × AreTexts (IsNumbered notation number (passed q)) moves threats × (text ≡ threat_word moves ++ threats)

-- a threat, behind the move that threatens and on its line
abbrev pub IsThreatText : Notation → ℕ → PlainBoard → Threat → List ℕ → Type 0
IsThreatText notation number q over text = text ≡ []
IsThreatText notation number q check text = text ≡ []
IsThreatText notation number q zugzwang text = text ≡ codes " zugzwang"
IsThreatText notation number q (short moves) text = AreThreatened notation number q moves text
IsThreatText notation number q (long (sequel m duals then)) text = AreThreatened notation number q (m ∷ duals) text

-- all continuations of a sequel
abbrev pub continuations_in : Sequel → List Ply
continuations_in (sequel m duals then) = m ∷ duals

-- what is told of the set play's continuation beside the actual ones on the board p: `, set 2.Kc3` where it changed, and else nothing
abbrev pub IsBesideText : Notation → PlainBoard → List Ply → PlainBoard → Ply → List ℕ → Type 0
IsBesideText notation p moves c s text =
    (IsChanged p moves c s × ((name : Name) × IsName notation c s name × (text ≡ codes ", set 2." ++ name_text name)))
    ⊎ ((IsChanged p moves c s → ⊥) × (text ≡ []))

-- what the set play has for a reply beside the actual continuations: nothing where it doesn't meet the reply, or is not asked for
abbrev pub IsChangedText : Notation → Option Posed → Ply → PlainBoard → List Ply → List ℕ → Type 0
IsChangedText notation None r p moves text = text ≡ []
IsChangedText notation (Some posed) r p moves text =
    ((c : PlainBoard) × (s : Ply) × IsSetMove notation.goal posed.board posed.plies r c s × IsBesideText notation p moves c s text)
    ⊎ (((c : PlainBoard) (s : Ply) → IsSetMove notation.goal posed.board posed.plies r c s → ⊥) × (text ≡ []))

abbrev mutual
  -- a sequel from the attacker's move of this number, as ` 2.Kb4 zugzwang, dual 2.Kb5`, what stands last on its line, and the lines behind it
  pub IsSequelText : Notation → ℕ → PlainBoard → List ℕ → Sequel → List ℕ → Type 0
  IsSequelText notation number b last (sequel m duals then) text =
      (q : PlainBoard) × IsMove b m q × (name : Name) × IsName notation b m name
      × (others : List ℕ) × AreDualsText notation number b (m ∷ duals) others
      × (rest : List ℕ) × IsPlayText notation number None q (others ++ last) then rest
      × (text ≡ codes " " ++ (decimal number ++ (codes "." ++ (name_text name ++ rest))))

  -- what stands behind the attacker's move of this number: its threat, the rest of its line, the lines of a longer threat, and the replies, behind a key
  -- each beside what the set play has for it
  pub IsPlayText : Notation → ℕ → Option Posed → PlainBoard → List ℕ → Play → List ℕ → Type 0
  IsPlayText notation number set q end (play threat replies) text =
      (head : List ℕ) × IsThreatText notation (number + 1) q threat head
      × (lines : List ℕ) × IsLongText notation number q threat lines
      × (rest : List ℕ) × AreSequelsText notation number set q replies rest
      × (text ≡ head ++ (end ++ (codes "\n" ++ (lines ++ rest))))

  -- what follows a longer threat, behind a pass, as `  1...~ 2.Kc4 zugzwang` and the lines behind it
  pub IsLongText : Notation → ℕ → PlainBoard → Threat → List ℕ → Type 0
  IsLongText notation number q over text = text ≡ []
  IsLongText notation number q check text = text ≡ []
  IsLongText notation number q zugzwang text = text ≡ []
  IsLongText notation number q (short moves) text = text ≡ []
  IsLongText notation number q (long s) text =
      (line : List ℕ) × IsSequelText notation (number + 1) (passed q) [] s line
      × (text ≡ indent number ++ (decimal number ++ (codes "...~" ++ line)))

  -- the replies to the attacker's move of this number, as `  1...Kb6 2.Kb4 zugzwang, set 2.Kc3` and the lines behind it
  pub AreSequelsText : Notation → ℕ → Option Posed → PlainBoard → Sequels → List ℕ → Type 0
  AreSequelsText notation number set q done text = text ≡ []
  AreSequelsText notation number set q (more r s others) text =
      (first : List ℕ) × (rest : List ℕ)
      × ((p : PlainBoard) × IsMove q r p × (reply : Name) × IsName notation q r reply
      × (last : List ℕ) × IsChangedText notation set r p (continuations_in s) last
      × (line : List ℕ) × IsSequelText notation (number + 1) p last s line
      × (first ≡ indent number ++ (decimal number ++ (codes "..." ++ (name_text reply ++ line)))))
      × AreSequelsText notation number set q others rest × (text ≡ first ++ rest)

-- a key, as `1.Qf5! threat 2.Kc4`, and the lines behind it
abbrev pub IsPlayedText : Notation → Option Posed → PlainBoard → Ply × Play → List ℕ → Type 0
IsPlayedText notation set b (m, then) text =
    (q : PlainBoard) × IsMove b m q × (first : Name) × IsName notation b m first
    × (rest : List ℕ) × IsPlayText notation 1 set q [] then rest
    × (text ≡ codes "1." ++ (name_text first ++ (codes "!" ++ rest)))

-- the set play, under a heading
abbrev pub IsWholeSetPlayText : Notation → PlainBoard → Sequels → List ℕ → Type 0
IsWholeSetPlayText notation b done text = text ≡ codes "no set play\n"
IsWholeSetPlayText notation b (more r s others) text =
    (lines : List ℕ) × AreSequelsText notation 1 None (passed b) (more r s others) lines × (text ≡ codes "set play\n" ++ lines)

-- a reply that refutes, on a line of its own, as `  but 1...Kb6!`
abbrev pub IsRefutationText : Notation → PlainBoard → Ply → List ℕ → Type 0
IsRefutationText notation q r text = (reply : Name) × IsName notation q r reply × (text ≡ codes "  but 1..." ++ (name_text reply ++ codes "!\n"))

-- a first move that is refuted, as `1.Kd4? threats 2.Qa1# 2.Qf5#`, the lines behind it, and last the replies that refute it
abbrev pub IsRefutedText : Notation → PlainBoard → Ply → Play → List Ply → List ℕ → Type 0
IsRefutedText notation b m then refutations text =
    (q : PlainBoard) × IsMove b m q × (first : Name) × IsName notation b m first
    × (rest : List ℕ) × IsPlayText notation 1 None q [] then rest
    × (last : List ℕ) × AreTexts (IsRefutationText notation q) refutations last
    × (text ≡ codes "1." ++ (name_text first ++ (codes "?" ++ (rest ++ last))))

-- a try: the one reply that refutes it stands last
abbrev pub IsPlayedTryText : Notation → PlainBoard → Try × Play → List ℕ → Type 0
IsPlayedTryText notation b (t, then) text = IsRefutedText notation b t.first then (t.refutation ∷ []) text

-- the tries with their play, under a heading
abbrev pub ArePlayedTriesText : Notation → PlainBoard → List (Try × Play) → List ℕ → Type 0
ArePlayedTriesText notation b [] text = text ≡ codes "no tries\n"
ArePlayedTriesText notation b (t ∷ others) text =
    (tries : List ℕ) × AreTexts (IsPlayedTryText notation b) (t ∷ others) tries × (text ≡ codes "tries\n" ++ tries)

-- what the replies to a key are held against, where the set play is asked for: the set play of the board, whose keys take so many plies
abbrev pub held_against : PlainBoard → ℕ → Bool → Option Posed
held_against b n false = None
held_against b n true = Some (record { board = b; plies = n })

-- the headline, the set play and the tries where they were asked for, and the keys
abbrev pub IsWholeText : Notation → PlainBoard → Extras → Whole → List ℕ → Type 0
IsWholeText notation b extras w text =
    (set_play : List ℕ) × IsTextOf (IsWholeSetPlayText notation b) w.set_play set_play
    × (tries : List ℕ) × IsTextOf (ArePlayedTriesText notation b) w.tries tries
    × (keys : List ℕ) × AreTexts (IsPlayedText notation (held_against b w.plies extras.set_play) b) w.keys keys
    × (text ≡ headline notation.goal extras.sooner w.plies (length w.keys) ++ (set_play ++ (tries ++ keys)))

-- the text is that of the whole solution of the position
abbrev pub IsWholeSolution : Symbols → Goal → PlainBoard → Extras → List ℕ → Type 0
IsWholeSolution symbols goal b extras text =
    (w : Whole) × IsComplete goal b extras w × IsWholeText (record { symbols = symbols; goal = goal }) b extras w text

-- a first move that is given: a key as ever, one that is refuted, or one that stalemates, as `1.Qb6? stalemate`
abbrev pub IsFirstText : Notation → PlainBoard → Ply → FirstPlay → List ℕ → Type 0
IsFirstText notation b m (key then) text = IsPlayedText notation None b (m, then) text
IsFirstText notation b m (refuted then refutations) text = IsRefutedText notation b m then refutations text
IsFirstText notation b m stalemate text =
    (first : Name) × IsName notation b m first × (text ≡ codes "1." ++ (name_text first ++ codes "? stalemate\n"))

-- the text is that of the play behind this first move, in a problem of the fewest plies
abbrev pub IsFirstSolution : Symbols → Goal → PlainBoard → Ply → List ℕ → Type 0
IsFirstSolution symbols goal b m text =
    (n : ℕ) × IsFewest goal b n × (first : FirstPlay) × IsPlayedFirst goal b n m first
    × IsFirstText (record { symbols = symbols; goal = goal }) b m first text
