-- A whole solution, written part by part.
use Rattle.std.proofs.Common.{◌≡◌, ◌∙◌, ◌+◌, ◌-◌, ◌<◌, ◌≤◌, ◌⊎◌, ℕ, List, [], ◌++◌, Option, Result, Ok, Err, IsErr, IsErrAnd, length, take, get_or, refl, sym, ap, subst, append_assoc, arith, inl, inr}
use Rattle.std.proofs.KnownBytes.{Appends-nil, Appends-trans}
use Rattle.std.proofs.lemmas.List.{append-nil, take_all}
use Rattle.rules.specs.Squares.{Ply}
use Rattle.solution_text.specs.Cut.{IsBeginning}
use Rattle.solution_text.proofs.Parts.{all_told, some_told}
use Rattle.solution_text.proofs.Played.{each_none, each_one}
use Rattle.composing.specs.Claims.{Writing}
use Rattle.composing.specs.Parts.{EndsKeys, EndsSolution, EndsText, FailsText, IsAskedWhole, IsAskedCut, TellsAllLines, TellsLines, WritesAsked, WritesKeys, WritesText, naming}
use Rattle.composing.specs.declared.whole_form.WholeForm.{WholeForm}
use Rattle.composing.specs.declared.whole_form.CutOff.{CutOff}
use Rattle.composing.specs.declared.whole_form.CutOff.TheVariants.{WriteFailed, NoMemory}
use Rattle.composing.proofs.CertifyLemmas.{gives_up, idle}
use Rattle.endings.specs.Run.{Refuses, no_memory}
use Rattle.endings.proofs.EndingLemmas.{finishes_after}
use Rattle.refusals.specs.declared.refusal.Refusal.TheVariants as refusal

-- ---- one text

module _ (Is : List ℕ → Type 0) (r : Result (Unit {0}) CutOff) where
  -- nothing is written for want of memory
  pub text_wanting : (a : Option (List ℕ)) (n : ℕ) → IsErr r × IsErrAnd r (λ cut. cut ≡ NoMemory) → EndsText Is (idle a n) r
  text_wanting a n err = by_result r err
    where
      by_result : (r : Result (Unit {0}) CutOff) → IsErr r × IsErrAnd r (λ cut. cut ≡ NoMemory) → EndsText Is (idle a n) r
      by_result (Ok x) err = absurd err.1
      by_result (Err cut) err = let nothing : WritesText (idle a n) [] = (Appends-nil a, refl) in subst (λ c. EndsText Is (idle a n) (Err c)) (sym err.1) nothing

  pub text_failed : (w : Writing) (text : List ℕ) → Is text → FailsText w text → IsErr r × IsErrAnd r (λ cut. cut ≡ WriteFailed) → EndsText Is w r
  text_failed w text is fails err = by_result r err
    where
      by_result : (r : Result (Unit {0}) CutOff) → IsErr r × IsErrAnd r (λ cut. cut ≡ WriteFailed) → EndsText Is w r
      by_result (Ok x) err = absurd err.1
      by_result (Err cut) err =
          let failed : (text : List ℕ) × Is text × FailsText w text = (text, is, fails) in
          subst (λ c. EndsText Is w (Err c)) (sym err.1) failed

-- ---- a text behind another

abbrev pub writing : Option (List ℕ) → Option (List ℕ) → ℕ → ℕ → Writing
writing a b p q = record { before = a; after = b; failed_before = p; failed_after = q }

module _ (a b c : Option (List ℕ)) (p q r : ℕ) (text more : List ℕ) (first : WritesText (writing a b p q) text) where
  pub writes_both : WritesText (writing b c q r) more → WritesText (writing a c p r) (text ++ more)
  writes_both (second, same) = (Appends-trans a b c text more first.0 second, same ∙ first.1)

  pub fails_behind : FailsText (writing b c q r) more → FailsText (writing a c p r) (text ++ more)
  fails_behind ((taken, rest, is, grown), one) =
      ((text ++ taken, rest, ap (λ (l : List ℕ). text ++ l) is ∙ sym (append_assoc text taken rest), Appends-trans a b c text taken first.0 grown), one ∙ ap (λ n. n + 1) first.1)

-- where nothing follows
pub writes_same : (a b c : Option (List ℕ)) (p q r : ℕ) (text : List ℕ) → WritesText (writing a b p q) text → WritesText (writing b c q r) [] → WritesText (writing a c p r) text
writes_same a b c p q r text first nothing =
    subst (λ l. WritesText (writing a c p r) l) (append-nil text) (writes_both a b c p q r text [] first nothing)

-- ---- keys

module _ (asked : WholeForm) (keys : List Ply) where
  pub no_keys : (a : Option (List ℕ)) (n : ℕ) → WritesKeys asked keys 0 (idle a n)
  no_keys a n = ([], each_none _ _ keys [] refl, (Appends-nil a, refl))

  one_more : (i : ℕ) (key : Ply) (text one : List ℕ) → i < length keys → key ≡ get_or keys i key → TellsAllLines asked (take i keys) text → TellsLines asked key one → TellsAllLines asked (take (i + 1) keys) (text ++ one)
  one_more i key text one below is told (then, play, line) = each_one _ _ keys i key then text one (text ++ one) below is told play line refl

  module _ (a b c : Option (List ℕ)) (p q r i : ℕ) (key : Ply) (below : i < length keys) (is : key ≡ get_or keys i key) where
    pub key_more : WritesKeys asked keys i (writing a b p q) → ((one : List ℕ) × TellsLines asked key one × WritesText (writing b c q r) one) → WritesKeys asked keys (i + 1) (writing a c p r)
    key_more (text, told, first) (one, tells, second) = (text ++ one, one_more i key text one below is told tells, writes_both a b c p q r text one first second)

    cut_here : (cut : CutOff) → WritesKeys asked keys i (writing a b p q) → EndsText (TellsLines asked key) (writing b c q r) (Err cut) → EndsKeys asked keys (writing a c p r) (Err cut)
    cut_here WriteFailed (text, told, first) (one, tells, fails) =
        (i + 1, text ++ one, one_more i key text one below is told tells, fails_behind a b c p q r text one first fails)
    cut_here NoMemory (text, told, first) nothing = (i, below, (text, told, writes_same a b c p q r text first nothing))

    pub keys_end : (cut : CutOff) (result : Result (Unit {0}) CutOff) → WritesKeys asked keys i (writing a b p q) → EndsText (TellsLines asked key) (writing b c q r) (Err cut)
        → IsErr result × IsErrAnd result (λ x. x ≡ cut) → EndsKeys asked keys (writing a c p r) result
    keys_end cut (Ok x) written ends err = absurd err.1
    keys_end cut (Err why) written ends err = subst (λ x. EndsKeys asked keys (writing a c p r) (Err x)) (sym err.1) (cut_here cut written ends)

  pub keys_done : (x : Unit {0}) (i : ℕ) (w : Writing) → length keys ≤ i → WritesKeys asked keys i w → EndsKeys asked keys w (Ok x)
  keys_done x i w all (text, told, written) = (text, subst (λ l. TellsAllLines asked l text) (take_all i keys all) told, written)

-- ---- the solution

le_or_lt : (i j : ℕ) → (i ≤ j) ⊎ (j < i)
le_or_lt i j = grind arith

module _ (asked : WholeForm) (keys : List Ply) (beginning : List ℕ) (begins : IsBeginning (naming asked) asked.root.board asked.root.limit asked.style.extras keys beginning) where
  whole : (lines : List ℕ) → TellsAllLines asked keys lines → IsAskedWhole asked (beginning ++ lines)
  whole lines told = all_told (naming asked) asked.root.board asked.root.limit asked.style.extras keys beginning lines begins told

  cut : (i : ℕ) (lines : List ℕ) → i < length keys → TellsAllLines asked (take i keys) lines → IsAskedCut asked (beginning ++ lines)
  cut i lines below told = some_told (naming asked) asked.root.board asked.root.limit asked.style.extras keys beginning lines i below begins told

  so_far : (i : ℕ) (lines : List ℕ) → TellsAllLines asked (take i keys) lines → IsAskedWhole asked (beginning ++ lines) ⊎ IsAskedCut asked (beginning ++ lines)
  so_far i lines told = elim (le_or_lt (length keys) i) as (λ _. IsAskedWhole asked (beginning ++ lines) ⊎ IsAskedCut asked (beginning ++ lines)) [
    | inl all ↦ inl (whole lines (subst (λ l. TellsAllLines asked l lines) (take_all i keys all) told))
    | inr below ↦ inr (cut i lines below told)
  ]

  -- the keys' lines behind the beginning
  pub solution_ends : (a b c : Option (List ℕ)) (p q r : ℕ) (result : Result (Unit {0}) CutOff) → WritesText (writing a b p q) beginning → EndsKeys asked keys (writing b c q r) result → EndsSolution asked (writing a c p r) result
  solution_ends a b c p q r (Ok x) first (lines, told, second) = (beginning ++ lines, whole lines told, writes_both a b c p q r beginning lines first second)
  solution_ends a b c p q r (Err WriteFailed) first (i, lines, told, fails) = (beginning ++ lines, so_far i lines told, fails_behind a b c p q r beginning lines first fails)
  solution_ends a b c p q r (Err NoMemory) first (i, below, (lines, told, second)) =
      inr (beginning ++ lines, cut i lines below told, writes_both a b c p q r beginning lines first second)

  -- the beginning alone, of which a write failed
  pub beginning_failed : (w : Writing) (result : Result (Unit {0}) CutOff) → FailsText w beginning → IsErr result × IsErrAnd result (λ cut. cut ≡ WriteFailed) → EndsSolution asked w result
  beginning_failed w (Ok x) fails err = absurd err.1
  beginning_failed w (Err why) fails err =
      let same : beginning ++ [] ≡ beginning = append-nil beginning in
      let is : IsAskedWhole asked beginning ⊎ IsAskedCut asked beginning =
      subst (λ l. IsAskedWhole asked l ⊎ IsAskedCut asked l) same (so_far 0 [] (each_none _ _ keys [] refl)) in
      let failed : (text : List ℕ) × (IsAskedWhole asked text ⊎ IsAskedCut asked text) × FailsText w text = (beginning, is, fails) in
      subst (λ x. EndsSolution asked w (Err x)) (sym err.1) failed

-- nothing is written for want of memory
pub solution_wanting : (asked : WholeForm) (a : Option (List ℕ)) (n : ℕ) (r : Result (Unit {0}) CutOff) → IsErr r × IsErrAnd r (λ cut. cut ≡ NoMemory) → EndsSolution asked (idle a n) r
solution_wanting asked a n (Ok x) err = absurd err.1
solution_wanting asked a n (Err why) err =
    let nothing : EndsSolution asked (idle a n) (Err NoMemory) = inl (Appends-nil a, refl) in
    subst (λ x. EndsSolution asked (idle a n) (Err x)) (sym err.1) nothing

-- ---- the run

module _ (asked : WholeForm) (a b : Option (List ℕ)) (p q status : ℕ) where
  pub solved_whole : (x : Unit {0}) → EndsSolution asked (writing a b p q) (Ok x) → status ≡ 0 → WritesAsked asked (record { before = a; after = b; failed_writes = q - p; status = status })
  solved_whole x (text, is, (written, same)) zero = inl (text, is, inl (written, omega (arith, same), zero))

  pub solved_failed : EndsSolution asked (writing a b p q) (Err WriteFailed) → status ≡ 4 → WritesAsked asked (record { before = a; after = b; failed_writes = q - p; status = status })
  solved_failed (text, inl is, (begun, one)) four = inl (text, is, inr (begun, omega (arith, one), four))
  solved_failed (text, inr is, ((taken, rest, parts, grown), one)) four =
      inr (inl (text, is, inr ((taken, rest ++ no_memory, ap (λ l. l ++ no_memory) parts ∙ append_assoc taken rest no_memory, grown), omega (arith, one), four)))

  pub solved_wanting : (c : Option (List ℕ)) (r : ℕ) → EndsSolution asked (writing a b p q) (Err NoMemory)
      → Refuses (record { before = b; after = c; failed_writes = r - q; status = status }) refusal.NoMemory
      → WritesAsked asked (record { before = a; after = c; failed_writes = r - p; status = status })
  solved_wanting c r (inl (nothing, same)) refuses =
      inr (inr (finishes_after a b c p q r status 3 [] no_memory nothing (omega (arith, same)) (gives_up _ refuses)))
  solved_wanting c r (inr (text, is, (written, same))) refuses =
      inr (inl (text, is, finishes_after a b c p q r status 3 text no_memory written (omega (arith, same)) (gives_up _ refuses)))
