-- The lines of a certificate are read on to their end, and what is read on to its end is a certificate.
use Rattle.std.proofs.Common.{◌≡◌, ◌<◌, ◌≤◌, inl, inr, ℕ, ◌+◌, ◌-◌, ◌%◌, List, [], ◌∷◌, ◌++◌, length, map, refl, sym, ap, ◌∙◌, subst, arith, All}
use Rattle.verifying.proofs.Common.{cases_lt, All-cons, All-head, All-nil, All-tail, slice_get_within, PlainBoard, Goal, Answer, Claim, Mate, Part, First, Win, Yes, Lesser, No, Word, first_line, words_line, fed, AreLinesFrom, IsCertificate, IsNoLine, IsSomeYesLine, NoLinesMake, ProveAnswer, with_claim, ReadsLine, ReadsOn, ReadsWords, begun_claims, begun_part, behind_yes}
use Rattle.problems.specs.declared.answer.Answer.TheVariants as answer
use Rattle.verifying.proofs.Making.{if_less, if_not_less}
use Rattle.verifying.proofs.OneAnswer.{certificate_named}

abbrev pub IsShort : List Word → Type 0
IsShort line = length (words_line line) ≤ 8192

module _ (goal : Goal) (b : PlainBoard) where
  -- ---- the lines of a certificate

  no_read : (told : Answer) (place : ℕ) (lines : List (List Word)) (old held : List Claim) → AreLinesFrom (IsNoLine goal) place lines old held → length held ≤ place + length lines → All IsShort lines → ReadsOn goal b (No told place) old (map words_line lines) told
  no_read told place [] old held are whole short = (place, refl, omega (arith, whole, ap length are))
  no_read told place (line ∷ lines) old held (c, next, at, first, rest) whole short = (
    No told (place + 1),
    next,
    inr (line, refl, All-head IsShort line lines short, ((c, at, first), refl)),
    no_read told (place + 1) lines next held rest (omega (arith, whole)) (All-tail IsShort line lines short),
  )

  lesser_read : (mate : Mate) (lines : List (List Word)) (old held : List Claim) → NoLinesMake goal b mate.plies mate.first lines held → length held < length lines → All IsShort lines → ReadsOn goal b (Lesser mate) old (map words_line lines) (answer.Mate mate.plies mate.first)
  lesser_read mate [] old held make fewer short = absurd make
  lesser_read mate (line ∷ lines) old held (next, begins, rest) fewer short = (
    No (answer.Mate mate.plies mate.first) 0,
    next,
    inr (line, refl, All-head IsShort line lines short, (begins, refl)),
    no_read (answer.Mate mate.plies mate.first) 0 lines next held rest (omega (arith, fewer)) (All-tail IsShort line lines short),
  )

  module _ (mate : Mate) (noes : List (List Word)) (held : List Claim) (make : NoLinesMake goal b mate.plies mate.first noes held) (fewer : length held < length noes) where
    yes_read : (place : ℕ) (yeas : List (List Word)) (old won : List Claim) → AreLinesFrom (IsSomeYesLine goal) place yeas old won → length won ≤ place + length yeas → All IsShort (yeas ++ noes) → ReadsOn goal b (behind_yes mate place (length old)) old (map words_line (yeas ++ noes)) (answer.Mate mate.plies mate.first)
    yes_read place [] old won are whole short =
        subst (λ (p : Part). ReadsOn goal b p old (map words_line noes) (answer.Mate mate.plies mate.first)) (sym (if_not_less place (length old) (Yes mate place) (Lesser mate) (omega (arith, whole, ap length are)))) (lesser_read mate noes old held make fewer short)
    yes_read place (line ∷ yeas) old won (c, next, at, first, rest) whole short =
        subst (λ (p : Part). ReadsOn goal b p old (map words_line ((line ∷ yeas) ++ noes)) (answer.Mate mate.plies mate.first)) (sym (if_less place (length old) (Yes mate place) (Lesser mate) (slice_get_within old place c at))) (
          behind_yes mate (place + 1) (length next),
          next,
          inr (line, refl, All-head IsShort line (yeas ++ noes) short, ((c, at, first), refl)),
          yes_read (place + 1) yeas next won rest (omega (arith, whole)) (All-tail IsShort line (yeas ++ noes) short),
        )

  proof_read : (told : Answer) (lines : List (List Word)) → ProveAnswer goal b told lines → All IsShort lines → ReadsOn goal b (begun_part told) (begun_claims b told) (map words_line lines) told
  proof_read (answer.Mate n first) lines ([], noes, is, (won, make, few), held) short = absurd make
  proof_read (answer.Mate n first) lines (line ∷ yeas, noes, is, (won, (next, begins, rest), few), (held, make, fewer)) short =
      let mate : Mate = record { plies = n; first = first } in
      let all = subst (All IsShort) is short in
      subst (λ (l : List (List Word)). ReadsOn goal b (Win mate) [] (map words_line l) (answer.Mate n first)) (sym is) (
        behind_yes mate 1 (length next),
        next,
        inr (line, refl, All-head IsShort line (yeas ++ noes) all, (begins, refl)),
        yes_read mate noes held make fewer 1 yeas next won rest (omega (arith, few)) (All-tail IsShort line (yeas ++ noes) all),
      )
  proof_read (answer.NoneWithin limit) lines (held, are, whole) short = no_read (answer.NoneWithin limit) 0 lines (with_claim [] b (limit - 1 + limit % 2)) held are (omega (arith, whole)) short

  pub certificate_read : (told : Answer) (text : List ℕ) (certificate : IsCertificate goal b told text) → ReadsOn goal b First [] (first_line goal told ∷ map words_line certificate.lines) told
  certificate_read told text certificate = (
    begun_part told,
    begun_claims b told,
    inl (refl, (told, certificate.range, certificate_named goal b told text certificate, refl, refl, refl)),
    proof_read told certificate.lines certificate.prove certificate.short,
  )

  -- ---- lines that are read to their end

  -- lines are those of words that prove something
  abbrev AreOf : List (List ℕ) → (List (List Word) → Type 0) → Type 0
  AreOf lines P = (words : List (List Word)) × (lines ≡ map words_line words) × All IsShort words × P words

  one_more : (line : List ℕ) (lines : List (List ℕ)) (word : List Word) (P Q : List (List Word) → Type 0) → line ≡ words_line word → length line ≤ 8192 → ((words : List (List Word)) → P words → Q (word ∷ words)) → AreOf lines P → AreOf (line ∷ lines) Q
  one_more line lines word P Q is small so (words, are, short, holds) = (
    word ∷ words,
    ap (λ (l : List ℕ). l ∷ lines) is ∙ ap (λ (l : List (List ℕ)). words_line word ∷ l) are,
    All-cons IsShort word words (subst (λ (l : List ℕ). length l ≤ 8192) is small) short,
    so words holds,
  )

  abbrev AreHeld : ℕ → List Claim → List (List Word) → Type 0
  AreHeld place old words = (held : List Claim) × AreLinesFrom (IsNoLine goal) place words old held × (length held ≤ place + length words)

  no_lines : (told mine : Answer) (place : ℕ) (old : List Claim) (lines : List (List ℕ)) → ReadsOn goal b (No mine place) old lines told → (mine ≡ told) × AreOf lines (AreHeld place old)
  no_lines told mine place old [] (at, is, whole) = (cc is, ([], refl, All-nil IsShort, (old, refl, omega (arith, whole, place_is place at is))))
    where
      place_is : (j k : ℕ) → No mine j ≡ No told k → j ≡ k
      place_is j k e = cc
  no_lines told mine place old (line ∷ lines) (next, new, inl (first, answered), rest) = absurd cc
  no_lines told mine place old (line ∷ lines) (next, new, inr (words, spelled, small, ((c, at, is_line), is)), rest) =
      let later = no_lines told mine (place + 1) new lines (subst (λ (p : Part). ReadsOn goal b p new lines told) is rest) in
      (later.0, one_more line lines words (AreHeld (place + 1) new) (AreHeld place old) spelled small (λ more (held, are, whole). (held, (c, new, at, is_line, are), omega (arith, whole))) later.1)

  abbrev ShowLesser : Mate → List (List Word) → Type 0
  ShowLesser mate noes = (held : List Claim) × NoLinesMake goal b mate.plies mate.first noes held × (length held < length noes)

  lesser_lines : (told : Answer) (mate : Mate) (old : List Claim) (lines : List (List ℕ)) → ReadsOn goal b (Lesser mate) old lines told → (answer.Mate mate.plies mate.first ≡ told) × AreOf lines (ShowLesser mate)
  lesser_lines told mate old [] (at, is, whole) = absurd cc
  lesser_lines told mate old (line ∷ lines) (next, new, inl (first, answered), rest) = absurd cc
  lesser_lines told mate old (line ∷ lines) (next, new, inr (words, spelled, small, (begins, is)), rest) =
      let later = no_lines told (answer.Mate mate.plies mate.first) 0 new lines (subst (λ (p : Part). ReadsOn goal b p new lines told) is rest) in
      (later.0, one_more line lines words (AreHeld 0 new) (ShowLesser mate) spelled small (λ more (held, are, whole). (held, (new, begins, are), omega (arith, whole))) later.1)

  abbrev ShowMate : Mate → ℕ → List Claim → List (List Word) → Type 0
  ShowMate mate place old words = (yeas : List (List Word)) × (noes : List (List Word)) × (words ≡ yeas ++ noes)
      × ((won : List Claim) × AreLinesFrom (IsSomeYesLine goal) place yeas old won × (length won ≤ place + length yeas)) × ShowLesser mate noes

  only_lesser : (told : Answer) (mate : Mate) (place : ℕ) (old : List Claim) (lines : List (List ℕ)) → length old ≤ place → ReadsOn goal b (behind_yes mate place (length old)) old lines told → (answer.Mate mate.plies mate.first ≡ told) × AreOf lines (ShowMate mate place old)
  only_lesser told mate place old lines whole reads =
      let (one, (words, are, short, lesser)) = lesser_lines told mate old lines (subst (λ (p : Part). ReadsOn goal b p old lines told) (if_not_less place (length old) (Yes mate place) (Lesser mate) whole) reads) in
      (one, (words, are, short, ([], words, refl, (old, refl, omega (arith, whole)), lesser)))

  yes_lines : (told : Answer) (mate : Mate) (place : ℕ) (old : List Claim) (lines : List (List ℕ)) → ReadsOn goal b (behind_yes mate place (length old)) old lines told → (answer.Mate mate.plies mate.first ≡ told) × AreOf lines (ShowMate mate place old)
  yes_lines told mate place old [] reads = elim (cases_lt place (length old)) as (λ _. (answer.Mate mate.plies mate.first ≡ told) × AreOf [] (ShowMate mate place old)) [
    | inl less ↦ let (at, is, ended) = subst (λ (p : Part). ReadsOn goal b p old [] told) (if_less place (length old) (Yes mate place) (Lesser mate) less) reads in absurd cc
    | inr whole ↦ only_lesser told mate place old [] whole reads
  ]
  yes_lines told mate place old (line ∷ lines) reads = elim (cases_lt place (length old)) as (λ _. (answer.Mate mate.plies mate.first ≡ told) × AreOf (line ∷ lines) (ShowMate mate place old)) [
    | inl less ↦
        let (next, new, read, rest) = subst (λ (p : Part). ReadsOn goal b p old (line ∷ lines) told) (if_less place (length old) (Yes mate place) (Lesser mate) less) reads in
        let (words, spelled, small, ((c, at, is_line), is)) = of_words read in
        let later = yes_lines told mate (place + 1) new lines (subst (λ (p : Part). ReadsOn goal b p new lines told) is rest) in (
          later.0,
          one_more line lines words (ShowMate mate (place + 1) new) (ShowMate mate place old) spelled small
              (λ more (yeas, noes, are, (won, make, few), lesser). (words ∷ yeas, noes, ap (λ (l : List (List Word)). words ∷ l) are, (won, (c, new, at, is_line, make), omega (arith, few)), lesser)) later.1,
        )
    | inr whole ↦ only_lesser told mate place old (line ∷ lines) whole reads
  ]
    where
      of_words : {next : Part} {new : List Claim} → ReadsLine goal b (Yes mate place) line old next new → (words : List Word) × (line ≡ words_line words) × (length line ≤ 8192) × ReadsWords goal b (Yes mate place) words old next new
      of_words (inl (first, answered)) = absurd cc
      of_words (inr read) = read

  proof_lines : (told mine : Answer) (lines : List (List ℕ)) → ReadsOn goal b (begun_part mine) (begun_claims b mine) lines told → (mine ≡ told) × AreOf lines (ProveAnswer goal b mine)
  proof_lines told (answer.Mate n first) [] (at, is, whole) = absurd cc
  proof_lines told (answer.Mate n first) (line ∷ lines) (next, new, inl (one, answered), rest) = absurd cc
  proof_lines told (answer.Mate n first) (line ∷ lines) (next, new, inr (words, spelled, small, (begins, is)), rest) =
      let mate : Mate = record { plies = n; first = first } in
      let later = yes_lines told mate 1 new lines (subst (λ (p : Part). ReadsOn goal b p new lines told) is rest) in (
        later.0,
        one_more line lines words (ShowMate mate 1 new) (ProveAnswer goal b (answer.Mate n first)) spelled small
            (λ more (yeas, noes, are, (won, make, few), lesser). (words ∷ yeas, noes, ap (λ (l : List (List Word)). words ∷ l) are, (won, (new, begins, make), omega (arith, few)), lesser)) later.1,
      )
  proof_lines told (answer.NoneWithin limit) lines reads =
      let (one, (words, are, short, (held, make, whole))) = no_lines told (answer.NoneWithin limit) 0 (with_claim [] b (limit - 1 + limit % 2)) lines reads in
      (one, (words, are, short, (held, make, omega (arith, whole))))

  pub certificate_of : (told : Answer) (lines : List (List ℕ)) → ReadsOn goal b First [] lines told → IsCertificate goal b told (fed lines)
  certificate_of told [] (at, is, whole) = absurd cc
  certificate_of told (line ∷ lines) (next, new, inr (words, spelled, small, (read, is)), rest) = absurd read
  certificate_of told (line ∷ lines) (next, new, inl (first, (mine, range, named, spelled, is, made)), rest) =
      let begun = subst (λ (l : List Claim). ReadsOn goal b (begun_part mine) l lines told) made (subst (λ (p : Part). ReadsOn goal b p new lines told) is rest) in
      let (one, (words, are, short, prove)) = proof_lines told mine lines begun in
      subst (λ (a : Answer). IsCertificate goal b a (fed (line ∷ lines))) one (record {
        range = range;
        lines = words;
        prove = prove;
        short = short;
        spelled = ap fed (ap (λ (l : List ℕ). l ∷ lines) spelled ∙ ap (λ (l : List (List ℕ)). first_line goal mine ∷ l) are);
      })
