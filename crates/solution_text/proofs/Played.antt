-- Keys and tries with the play behind each, and the set play.
use Rattle.std.proofs.Common.{None, true, false, ◌==◌, codes, Some, ◌≡◌, ℕ, ◌+◌, ◌-◌, ◌<◌, ◌≤◌, List, [], ◌∷◌, ◌++◌, length, take, get_or, map, All, refl, sym, ◌∙◌, ap, subst}
use Rattle.solution_text.proofs.Common.{decimal, map-append, length-map, take_all, All-push, All-nil, PlainBoard, Ply, Notation, name_text, IsFewest, ListsContinuations, passed, ListsTries, Play, Sequels, done, more, IsPlayedTry, IsWholeSetPlay, headline, AreTexts, AreSequelsText, IsPlayedTryText, IsWholeSolution, TellsReplies, TellsEach, TellsKeys, TellsPlayedTries, TellsSetPlay, TellsTries, take_more}
use Rattle.std.proofs.Math.Dec.{eqb-suc-zero}
use Rattle.std.proofs.lemmas.Bool.{false≢true}
use Rattle.rules.specs.Reach.{IsSound}
use Rattle.solutions.specs.declared.extras.Extras.{Extras}
use Rattle.solutions.specs.declared.first_try.Try.{Try}
use Rattle.solution_text.specs.WholeText.{held_against}
use Rattle.solution_text.proofs.Texts.{AreTexts-push}

module _ {X : Type 0} (P : X × Play → Type 0) (IsText : X × Play → List ℕ → Type 0) (xs : List X) where
  pub each_none : (text : List ℕ) → text ≡ [] → TellsEach P IsText (take 0 xs) text
  each_none text none = record { played = []; firsts = refl; each = All-nil P; texts = none }

  pub each_one : (i : ℕ) (x : X) (then : Play) (text one new : List ℕ) → i < length xs → x ≡ get_or xs i x → TellsEach P IsText (take i xs) text → P (x, then) → IsText (x, then) one → new ≡ text ++ one
      → TellsEach P IsText (take (i + 1) xs) new
  each_one i x then text one new within is so_far here line added = subst (TellsEach P IsText (take (i + 1) xs)) (sym added) (record {
    played = so_far.played ++ (x, then) ∷ [];
    firsts = map-append (λ (k : X × Play). k.0) so_far.played ((x, then) ∷ []) ∙ ap (λ l. l ++ x ∷ []) so_far.firsts ∙ sym (take_more xs i x within is);
    each = All-push P so_far.played (x, then) so_far.each here;
    texts = AreTexts-push IsText so_far.played (x, then) text one so_far.texts line;
  })

  pub each_all : (i : ℕ) (text : List ℕ) → length xs ≤ i → TellsEach P IsText (take i xs) text → TellsEach P IsText xs text
  each_all i text all told = subst (λ ys. TellsEach P IsText ys text) (take_all i xs all) told

-- ---- tries

module _ (notation : Notation) (b : PlainBoard) (n : ℕ) where
  pub tries_none : (tries : List Try) (text : List ℕ) → ListsTries notation.goal b n tries → (length tries == 0) ≡ true → text ≡ codes "no tries\n" → TellsTries notation b n true text
  tries_none [] text lists none is = (Some [], record { tried = lists; each = All-nil (IsPlayedTry notation.goal b n) }, is)
  tries_none (t ∷ others) text lists none is = absurd (false≢true (sym (eqb-suc-zero (length others)) ∙ none))

  pub tries_told : (tries : List Try) (lines text : List ℕ) → ListsTries notation.goal b n tries → (length tries == 0) ≡ false → TellsPlayedTries notation b n tries lines → text ≡ codes "tries\n" ++ lines → TellsTries notation b n true text
  tries_told tries lines text lists some told is = by_played told.played told.firsts told.each told.texts
    where
      by_played : (played : List (Try × Play)) → map (λ (t : Try × Play). t.0) played ≡ tries → All (IsPlayedTry notation.goal b n) played → AreTexts (IsPlayedTryText notation b) played lines → TellsTries notation b n true text
      by_played [] firsts each texts = let none : true ≡ false = subst (λ (ts : List Try). (length ts == 0) ≡ false) (sym firsts) some in absurd (false≢true (sym none))
      by_played (t ∷ others) firsts each texts = (Some (t ∷ others), record { tried = subst (ListsTries notation.goal b n) (sym firsts) lists; each = each }, (lines, texts, is))

-- ---- the set play

begun_some : (x : ℕ) (xs : List ℕ) → (length (x ∷ xs) == 0) ≡ true → ⊥
begun_some x xs none = false≢true (sym (eqb-suc-zero (length xs)) ∙ none)

-- with no line there is no reply
no_reply : (notation : Notation) (q : PlainBoard) (replies : Sequels) (lines : List ℕ) → AreSequelsText notation 1 None q replies lines → (length lines == 0) ≡ true → replies ≡ done
no_reply notation q done lines text none = refl
no_reply notation q (more r s others) lines (first, rest, (p, move, reply, named, last, unchanged, line, sequel, begun), below, is) none =
    absurd (begun_some 32 (32 ∷ (decimal 1 ++ (codes "..." ++ (name_text reply ++ line))) ++ rest) (subst (λ l. (length l == 0) ≡ true) (is ∙ ap (λ f. f ++ rest) begun) none))

module _ (notation : Notation) (b : PlainBoard) (n : ℕ) (sound : IsSound (passed b)) (lines text : List ℕ) (told : TellsReplies notation 1 None (passed b) (n - 2) lines) where
  is_set_play : IsWholeSetPlay notation.goal b n told.0
  is_set_play = record { met = λ _. told.1; each = λ _. told.2; unsound = λ not. absurd (not sound) }

  pub set_play_empty : (length lines == 0) ≡ true → text ≡ codes "no set play\n" → TellsSetPlay notation b n true text
  set_play_empty none is = (Some done, subst (IsWholeSetPlay notation.goal b n) (no_reply notation (passed b) told.0 lines told.3 none) is_set_play, is)

  pub set_play_told : (length lines == 0) ≡ false → text ≡ codes "set play\n" ++ lines → TellsSetPlay notation b n true text
  set_play_told some is = by_replies told.0 is_set_play told.3
    where
      by_replies : (replies : Sequels) → IsWholeSetPlay notation.goal b n replies → AreSequelsText notation 1 None (passed b) replies lines → TellsSetPlay notation b n true text
      by_replies done play none = cc
      by_replies (more r s others) play told = (Some (more r s others), play, (lines, told, is))

-- where the pass isn't sound there is none
pub set_play_unsound : (notation : Notation) (b : PlainBoard) (n : ℕ) (text : List ℕ) → (IsSound (passed b) → ⊥) → text ≡ codes "no set play\n" → TellsSetPlay notation b n true text
set_play_unsound notation b n text unsound is =
    (Some done, record { met = λ sound. absurd (unsound sound); each = λ sound. absurd (unsound sound); unsound = λ _. refl }, is)

-- ---- the whole

pub whole_told : (notation : Notation) (b : PlainBoard) (n : ℕ) (extras : Extras) (firsts : List Ply) (head set_play tries keys text : List ℕ) → IsFewest notation.goal b n → ListsContinuations notation.goal b n firsts
    → head ≡ headline notation.goal extras.sooner n (length firsts) → TellsSetPlay notation b n extras.set_play set_play → TellsTries notation b n extras.tries tries → TellsKeys notation (held_against b n extras.set_play) b n firsts keys
    → text ≡ head ++ (set_play ++ (tries ++ keys)) → IsWholeSolution notation.symbols notation.goal b extras text
whole_told notation b n extras firsts head set_play tries keys text fewest lists begins (sets, set_is, set_text) (found, found_is, found_text) told is =
    let count : length firsts ≡ length told.played = ap (length {A = Ply}) (sym told.firsts) ∙ length-map told.played (λ (k : Ply × Play). k.0) in (
      record { plies = n; keys = told.played; set_play = sets; tries = found },
      record { plies = fewest; firsts = subst (ListsContinuations notation.goal b n) (sym told.firsts) lists; keys = told.each; set_play = set_is; tries = found_is },
      (set_play, set_text, tries, found_text, keys, told.texts, is ∙ ap (λ h. h ++ (set_play ++ (tries ++ keys))) (begins ∙ ap (headline notation.goal extras.sooner n) count)),
    )
