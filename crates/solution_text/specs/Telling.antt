-- Lines of a whole solution: that the text is that of something that is so.
use Rattle.std.specs.Prelude.{◌≡◌, ℕ, ◌-◌, List, ◌∷◌, map, All, Bool, Option}
use Rattle.board.specs.Board.{PlainBoard}
use Rattle.rules.specs.Squares.{Ply}
use Rattle.rules.specs.Moves.{IsMove, IsLawful}
use Rattle.algebraic.specs.declared.naming.Notation.{Notation}
use Rattle.solutions.specs.declared.first_try.Try.{Try}
use Rattle.solutions.specs.Lines.{ListsMoves, IsMet}
use Rattle.solutions.specs.Solutions.{passed, IsWhereAsked}
use Rattle.solutions.specs.Whole.{Sequel, sequel, Play, long, Sequels, done, more, replies_in, IsSequel, AreSequels, IsPlayedKey, IsVirtualPlay, IsPlayedTry, ListsPlayedTries, FirstPlay, IsPlayedFirst, IsWholeSetPlay}
use Rattle.solution_text.specs.declared.posed.Posed.{Posed}
use Rattle.solution_text.specs.Text.{AreTexts, IsTextOf}
use Rattle.solution_text.specs.WholeText.{IsSequelText, IsPlayText, IsLongText, AreSequelsText, IsPlayedText, IsRefutedText, IsPlayedTryText, ArePlayedTriesText, IsFirstText, IsWholeSetPlayText}

-- the sequel and its text, where these are all continuations, and this stands last on their line
abbrev pub TellsSequel : Notation → ℕ → PlainBoard → ℕ → List Ply → List ℕ → List ℕ → Type 0
TellsSequel notation number b n moves last text =
    (m : Ply) × (duals : List Ply) × (moves ≡ m ∷ duals)
    × (then : Play) × IsSequel notation.goal b n (sequel m duals then) × IsSequelText notation number b last (sequel m duals then) text

-- the same behind a pass, as a longer threat
abbrev pub TellsLong : Notation → ℕ → PlainBoard → ℕ → List Ply → List ℕ → Type 0
TellsLong notation number q n moves text =
    (m : Ply) × (duals : List Ply) × (moves ≡ m ∷ duals)
    × (then : Play) × IsSequel notation.goal (passed q) n (sequel m duals then) × IsLongText notation number q (long (sequel m duals then)) text

-- the threat, exactly the replies that are met within n plies, with their sequels, and their text
abbrev pub TellsPlay : Notation → ℕ → Option Posed → PlainBoard → ℕ → List ℕ → List ℕ → Type 0
TellsPlay notation number set q n end text =
    (then : Play) × IsVirtualPlay notation.goal q n then × IsPlayText notation number set q end then text

-- the reply is met within n plies, with its sequel and their text
abbrev pub TellsReply : Notation → ℕ → Option Posed → PlainBoard → ℕ → Ply → List ℕ → Type 0
TellsReply notation number set q n r text =
    IsMet notation.goal q n r
    × ((s : Sequel) × AreSequels notation.goal q (more r s done) × AreSequelsText notation number set q (more r s done) text)

-- exactly the replies that are met within n plies, with their sequels and their text
abbrev pub TellsReplies : Notation → ℕ → Option Posed → PlainBoard → ℕ → List ℕ → Type 0
TellsReplies notation number set q n text =
    (replies : Sequels) × ListsMoves q.game (IsMet notation.goal q n) (replies_in replies)
    × AreSequels notation.goal q replies × AreSequelsText notation number set q replies text

-- the key with its play, and their text
abbrev pub TellsKey : Notation → Option Posed → PlainBoard → ℕ → Ply → List ℕ → Type 0
TellsKey notation set b n key text = (then : Play) × IsPlayedKey notation.goal b n (key, then) × IsPlayedText notation set b (key, then) text

-- the move leaves replies, and these are lawful ones
abbrev pub LeavesReplies : PlainBoard → Ply → List Ply → Type 0
LeavesReplies b m replies = (q : PlainBoard) × IsMove b m q × ((r : Ply) × IsLawful q r) × All (IsLawful q) replies

-- the virtual play behind the move, and their text with these refutations
abbrev pub TellsRefuted : Notation → PlainBoard → ℕ → Ply → List Ply → List ℕ → Type 0
TellsRefuted notation b n m refutations text =
    (then : Play) × ((q : PlainBoard) × IsMove b m q × IsVirtualPlay notation.goal q (n - 2) then) × IsRefutedText notation b m then refutations text

-- the first move with what follows it, and their text
abbrev pub TellsFirst : Notation → PlainBoard → ℕ → Ply → List ℕ → Type 0
TellsFirst notation b n m text = (first : FirstPlay) × IsPlayedFirst notation.goal b n m first × IsFirstText notation b m first text

-- the try with its play, and their text
abbrev pub TellsTry : Notation → PlainBoard → ℕ → Try → List ℕ → Type 0
TellsTry notation b n t text = (then : Play) × IsPlayedTry notation.goal b n (t, then) × IsPlayedTryText notation b (t, then) text

-- each of these with a play of which P holds, and their text
pub record TellsEach {X : Type 0} (P : X × Play → Type 0) (IsText : X × Play → List ℕ → Type 0) (xs : List X) (text : List ℕ) : Type 0 where
  pub played : List (X × Play)
  pub firsts : map (λ x. x.0) played ≡ xs
  pub each : All P played
  pub texts : AreTexts IsText played text

-- these keys with their play, and their text
abbrev pub TellsKeys : Notation → Option Posed → PlainBoard → ℕ → List Ply → List ℕ → Type 0
TellsKeys notation set b n keys text = TellsEach (IsPlayedKey notation.goal b n) (IsPlayedText notation set b) keys text

-- these tries with their play, and their text
abbrev pub TellsPlayedTries : Notation → PlainBoard → ℕ → List Try → List ℕ → Type 0
TellsPlayedTries notation b n tries text = TellsEach (IsPlayedTry notation.goal b n) (IsPlayedTryText notation b) tries text

-- the set play and its text, where it is asked for
abbrev pub TellsSetPlay : Notation → PlainBoard → ℕ → Bool → List ℕ → Type 0
TellsSetPlay notation b n asked text =
    (found : Option Sequels) × IsWhereAsked (IsWholeSetPlay notation.goal b n) asked found × IsTextOf (IsWholeSetPlayText notation b) found text

-- the tries with their play and the text of these, where they are asked for
abbrev pub TellsTries : Notation → PlainBoard → ℕ → Bool → List ℕ → Type 0
TellsTries notation b n asked text =
    (found : Option (List (Try × Play))) × IsWhereAsked (ListsPlayedTries notation.goal b n) asked found
    × IsTextOf (ArePlayedTriesText notation b) found text
