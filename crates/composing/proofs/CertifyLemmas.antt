-- Lines of claims, one after another, and a run that writes them.
use Rattle.std.proofs.Common.{◌≡◌, ◌∙◌, ◌+◌, ◌-◌, ◌*◌, ◌/◌, ◌%◌, ◌⊎◌, ℕ, zero, suc, List, [], ◌∷◌, ◌++◌, Bool, Option, None, Result, Ok, Err, IsErr, IsErrAnd, vec_items, refl, sym, ap, subst, append_assoc, arith, inl, inr}
use Rattle.std.proofs.KnownBytes.{Appends-nil, Appends-trans}
use Rattle.std.proofs.lemmas.Bool.{cases_eq}
use Rattle.std.proofs.lemmas.List.{append-nil}
use Rattle.std.proofs.lemmas.Grind.{flat_map-append}
use Rattle.std.specs.declared.alloc.Global.{Global}
use Rattle.std.specs.Io.KnownBytes.{Appends}
use Rattle.board.specs.Board.{PlainBoard}
use Rattle.rules.specs.declared.goal.Goal.{Goal}
use Rattle.rules.specs.Forces.{Forces}
use Rattle.rules.proofs.Forcing.{same_side-self, Forces-even, twice, twice-double}
use Rattle.problems.specs.declared.answer.Answer.{Answer}
use Rattle.problems.specs.declared.answer.Answer.TheVariants.{Mate, NoneWithin}
use Rattle.problems.specs.Answer.{IsAnswer, IsFewest}
use Rattle.problems.proofs.Winning.{nothing_at_once}
use Rattle.certificates.specs.Answers.{IsOdd}
use Rattle.searcher.proofs.Limits.{limit_within}
use Rattle.command_line.specs.declared.line.Limits.{Limits}
use Rattle.command_line.specs.declared.line.Subject.{Subject}
use Rattle.devices.specs.Device.{AppendsBeginning}
use Rattle.verifying.specs.declared.checker.Checker.{Checker}
use Rattle.verifying.specs.declared.fault.Fault.{Fault}
use Rattle.verifying.specs.declared.fault.Fault.TheVariants as certificate
use Rattle.verifying.specs.declared.words.Word.{Word}
use Rattle.verifying.specs.Certificate.{IsCertificate}
use Rattle.verifying.specs.Checking.{HasTakenText, HasTaken, IsProvedBy, TakesMore}
use Rattle.verifying.specs.Words.{words_line}
use Rattle.verifying.specs.FirstLine.{IsInRange, HasNamedMove, first_line}
use Rattle.rules.proofs.Naming.{ply_of_lawful}
use Rattle.verifying.proofs.Refused.{begun_answer}
use Rattle.certifying.specs.Lines.{claim_line, claim_lines}
use Rattle.certifying.specs.Making.{IsSpent, RefusesNext}
use Rattle.certifying.specs.declared.certificate.Certificate.{Certificate}
use Rattle.refusals.specs.Reply.{refused}
use Rattle.refusals.specs.declared.refusal.Refusal.{Refusal}
use Rattle.refusals.specs.declared.refusal.Refusal.TheVariants as refusal
use Rattle.answer_texts.specs.Answers.{answer_text}
use Rattle.refusals.specs.Outcome.{IsSoundText}
use Rattle.context.specs.Limits.{fault_of}
use Rattle.verdicts.specs.Verdict.{IsRefusedFor}
use Rattle.verdicts.proofs.VerdictLemmas.{answer_line}
use Rattle.context.specs.Shown.{ShowsPosition}
use Rattle.composing.specs.Certifying.{WritesCertificate, WritesClaims}
use Rattle.composing.specs.Claims.{AddsAll, AddsClaims, BeginsAt, BeginsCertificate, HasAnswerLine, CutsClaims, StopsClaims, RefusesBehind, RefusesNextBehind, EndsWriting, Writing, WritesLines, cut_of}
use Rattle.endings.specs.Run.{Ending, Finishes, Refuses, no_memory}
use Rattle.endings.proofs.EndingLemmas.{finishes_after}
use Rattle.composing.specs.declared.certificate.Begun.{Begun}
use Rattle.composing.specs.declared.certificate.Cut.{Cut}
use Rattle.composing.specs.declared.certificate.Cut.TheVariants.{WriteFailed, NoMemory, Refused}

-- ---- the first line

halved : (n : ℕ) → ((half : ℕ) × (n ≡ 2 * half + 1)) ⊎ ((half : ℕ) × (n ≡ 2 * half))
halved n = elim (cases_eq (n % 2) 1) as (λ _. ((half : ℕ) × (n ≡ 2 * half + 1)) ⊎ ((half : ℕ) × (n ≡ 2 * half))) [
  | inl odd ↦ inl (n / 2, omega (arith, odd))
  | inr even ↦ inr (n / 2, omega (arith, even))
]

-- the fewest plies are odd
not_even : (goal : Goal) (b : PlainBoard) (n half : ℕ) → IsFewest goal b n → n ≡ 2 * half → ⊥
not_even goal b n zero fewest even = nothing_at_once goal b n (omega (arith, even)) fewest.forced
not_even goal b n (suc half) fewest even =
    let double = twice-double half in
    let twice_more : n ≡ suc (suc (twice half)) = omega (arith, even, double) in
    fewest.fewer (suc (twice half)) (omega (arith, twice_more)) (Forces-even half goal b.mover b (same_side-self b.mover) (subst (Forces goal b.mover b) twice_more fewest.forced))

fewest_odd : (goal : Goal) (b : PlainBoard) (n : ℕ) → IsFewest goal b n → IsOdd n
fewest_odd goal b n fewest = elim (halved n) as (λ _. IsOdd n) [
  | inl odd ↦ odd
  | inr even ↦ absurd (not_even goal b n even.0 fewest even.1)
]

pub answer_ranged : (goal : Goal) (b : PlainBoard) (limits : Limits) (answer : Answer) → fault_of limits ≡ None → IsAnswer goal b limits.limit answer → IsInRange answer
answer_ranged goal b limits (Mate plies first) taken (within, fewest, least) =
    let most = limit_within limits.limit limits.workers limits.slots taken in
    (fewest_odd goal b plies fewest, omega (arith, within, most.1))
answer_ranged goal b limits (NoneWithin limit) taken (is, nothing) =
    let most = limit_within limits.limit limits.workers limits.slots taken in
    (omega (arith, is, most.0), omega (arith, is, most.1))

pub answer_named : (goal : Goal) (b : PlainBoard) (limit : ℕ) (answer : Answer) → IsAnswer goal b limit answer → HasNamedMove answer
answer_named goal b limit (Mate plies first) (within, fewest, least) = ply_of_lawful b first (least.wins.0, least.wins.1)
answer_named goal b limit (NoneWithin n) is = tt

pub begun_at : (goal : Goal) (b : PlainBoard) (limits : Limits) (answer : Answer) (begun : Begun) → fault_of limits ≡ None → IsAnswer goal b limits.limit answer → vec_items begun.line ≡ answer_text goal answer → HasTakenText goal b begun.certificate.checker (first_line goal answer ++ 10 ∷ []) → BeginsAt goal b limits (Ok begun)
begun_at goal b limits answer begun accepted is line taken = (
  accepted,
  (
    answer,
    is,
    record {
      range = answer_ranged goal b limits answer accepted is;
      named = answer_named goal b limits.limit answer is;
      line = line;
      taken = subst (λ (l : List ℕ). HasTakenText goal b begun.certificate.checker l) (sym (answer_line goal answer)) taken;
    },
  ),
)

pub begins_position : (subject : Subject) (limits : Limits) (b : PlainBoard) (r : Result Begun Refusal) → IsSoundText subject.fen.now b → BeginsAt subject.goal b limits r → BeginsCertificate subject limits r
begins_position subject limits b (Ok begun) sound begins = (b, sound, begins)
begins_position subject limits b (Err why) sound (inl none) = inl none
begins_position subject limits b (Err why) sound (inr shows) = inr (inl (b, sound, shows))

-- ---- a line

one_line : (text : List ℕ) (words : List Word) → text ≡ claim_line words → text ≡ claim_lines (words ∷ [])
one_line text words is = is ∙ sym (append-nil (claim_line words))

pub adds_one : (old new : Checker Global) (w : Writing) (text : List ℕ) (words : List Word) → text ≡ claim_line words → TakesMore old new text → Appends w.before w.after text → w.failed_after ≡ w.failed_before → AddsClaims old new w
adds_one old new w text words is takes written same =
    let one = one_line text words is in
    (words ∷ [], (subst (λ (l : List ℕ). Appends w.before w.after l) one written, same), λ goal b before taken. subst (λ (l : List ℕ). HasTakenText goal b new (before ++ l)) one (takes goal b before taken))

pub ends_cut : (old new : Checker Global) (maker : Certificate) (w : Writing) (r : Result Bool Cut) (text : List ℕ) (words : List Word) → text ≡ claim_line words → AppendsBeginning w.before w.after text
    → w.failed_after ≡ w.failed_before + 1 → IsErr r × IsErrAnd r (λ cut. cut ≡ WriteFailed) → EndsWriting old new maker w r
ends_cut old new maker w (Ok more) text words is cut one err = absurd err.1
ends_cut old new maker w (Err stop) text words is cut one err =
    let cuts : CutsClaims w = (words ∷ [], subst (λ (l : List ℕ). AppendsBeginning w.before w.after l) (one_line text words is) cut, one) in
    subst (StopsClaims old maker w) (sym err.1) cuts

-- nothing is written where nothing is handed out
abbrev pub idle : Option (List ℕ) → ℕ → Writing
idle a n = record { before = a; after = a; failed_before = n; failed_after = n }

writes_none : (a : Option (List ℕ)) (n : ℕ) → WritesLines (idle a n) []
writes_none a n = (Appends-nil a, refl)

pub adds_none : (checker : Checker Global) (a : Option (List ℕ)) (n : ℕ) → AddsClaims checker checker (idle a n)
adds_none checker a n = ([], writes_none a n, λ goal b text taken. subst (λ (l : List ℕ). HasTakenText goal b checker l) (sym (append-nil text)) taken)

pub ends_whole : (old : Checker Global) (a : Option (List ℕ)) (n : ℕ) → ((answer : Answer) × IsProvedBy old answer) → AddsAll old (idle a n)
ends_whole old a n (answer, proves) =
    ([], writes_none a n, λ goal b text taken. (answer, subst (λ (l : List ℕ). IsCertificate goal b answer l) (sym (append-nil text)) (proves goal b text taken).0))

-- behind what the checker has taken, this text is refused
abbrev RefusesAtOnce : Checker Global → List ℕ → Refusal → Type 0
RefusesAtOnce old more why = (goal : Goal) (b : PlainBoard) (text : List ℕ) → HasTakenText goal b old text → IsRefusedFor goal b (text ++ more) why

behind_none : (old : Checker Global) (more : List ℕ) (why : Refusal) → RefusesAtOnce old more why → RefusesBehind old [] more why
behind_none old more why so = λ goal b text taken. subst (λ (l : List ℕ). IsRefusedFor goal b (l ++ more) why) (sym (append-nil text)) (so goal b text taken)

refusing : (old : Checker Global) (maker : Certificate) (a : Option (List ℕ)) (n : ℕ) (why : Refusal)
    → ((words : List Word) × ((rest : List ℕ) → RefusesAtOnce old (words_line words ++ 10 ∷ rest) why)) ⊎ (IsSpent maker × RefusesAtOnce old [] why)
    → StopsClaims old maker (idle a n) (Refused why)
refusing old maker a n why (inl (words, so)) = ([], writes_none a n, inl (words, λ rest. behind_none old (words_line words ++ 10 ∷ rest) why (so rest)))
refusing old maker a n why (inr (spent, so)) = ([], writes_none a n, inr (spent, behind_none old [] why so))

pub ends_refused : (old new : Checker Global) (maker : Certificate) (a : Option (List ℕ)) (n : ℕ) (fault : Fault) (r : Result Bool Cut) → ((fault ≡ certificate.NoMemory → ⊥) → RefusesNext old maker fault) → IsErr r × IsErrAnd r (λ cut. cut ≡ cut_of fault)
    → EndsWriting old new maker (idle a n) r
ends_refused old new maker a n fault (Ok more) refuses err = absurd err.1
ends_refused old new maker a n fault (Err cut) refuses err = subst (StopsClaims old maker (idle a n)) (sym err.1) (by_fault fault refuses)
  where
    by_fault : (fault : Fault) → ((fault ≡ certificate.NoMemory → ⊥) → RefusesNext old maker fault) → StopsClaims old maker (idle a n) (cut_of fault)
    by_fault certificate.Answer refuses = refusing old maker a n refusal.Answer (refuses (λ e. cc))
    by_fault (certificate.Claim line) refuses = refusing old maker a n (refusal.Claim line) (refuses (λ e. cc))
    by_fault certificate.TooLong refuses = refusing old maker a n refusal.TooLong (refuses (λ e. cc))
    by_fault certificate.NoMemory refuses = ([], writes_none a n)
    by_fault certificate.ReadFailed refuses = ([], writes_none a n)

-- ---- one line after another

pub still_taken : (old new : Checker Global) (w : Writing) → HasTaken old → AddsClaims old new w → HasTaken new
still_taken old new w (goal, b, text, taken) (lines, written, takes) = (goal, b, text ++ claim_lines lines, takes goal b text taken)

-- the text of lines behind others
behind : (text : List ℕ) (xs ys : List (List Word)) → (text ++ claim_lines xs) ++ claim_lines ys ≡ text ++ claim_lines (xs ++ ys)
behind text xs ys = append_assoc text (claim_lines xs) (claim_lines ys) ∙ ap (λ (l : List ℕ). text ++ l) (sym (flat_map-append claim_line xs ys))

-- what is refused behind later lines is refused behind all
refuses_more : (old mid : Checker Global) (xs ys : List (List Word)) (more : List ℕ) (why : Refusal) → TakesMore old mid (claim_lines xs) → RefusesBehind mid ys more why → RefusesBehind old (xs ++ ys) more why
refuses_more old mid xs ys more why takes refuses = λ goal board text taken.
    subst (λ (l : List ℕ). IsRefusedFor goal board (l ++ more) why) (behind text xs ys) (refuses goal board (text ++ claim_lines xs) (takes goal board text taken))

refuses_next_more : (old mid : Checker Global) (maker : Certificate) (xs ys : List (List Word)) (why : Refusal) → TakesMore old mid (claim_lines xs) → RefusesNextBehind mid maker ys why → RefusesNextBehind old maker (xs ++ ys) why
refuses_next_more old mid maker xs ys why takes (inl (words, refuses)) = inl (words, λ rest. refuses_more old mid xs ys (words_line words ++ 10 ∷ rest) why takes (refuses rest))
refuses_next_more old mid maker xs ys why takes (inr (spent, refuses)) = inr (spent, refuses_more old mid xs ys [] why takes refuses)

-- some text is refused
refused_text : (old : Checker Global) (maker : Certificate) (lines : List (List Word)) (why : Refusal) → RefusesNextBehind old maker lines why → (more : List ℕ) × RefusesBehind old lines more why
refused_text old maker lines why (inl (words, refuses)) = (words_line words ++ 10 ∷ [], refuses [])
refused_text old maker lines why (inr (spent, refuses)) = ([], refuses)

module _ (a b c : Option (List ℕ)) (p q r : ℕ) where
  writes_more : (xs ys : List (List Word)) → WritesLines (record { before = a; after = b; failed_before = p; failed_after = q }) xs
      → WritesLines (record { before = b; after = c; failed_before = q; failed_after = r }) ys
      → WritesLines (record { before = a; after = c; failed_before = p; failed_after = r }) (xs ++ ys)
  writes_more xs ys (first, none) (second, still) =
      (subst (λ (l : List ℕ). Appends a c l) (sym (flat_map-append claim_line xs ys)) (Appends-trans a b c (claim_lines xs) (claim_lines ys) first second), still ∙ none)

  pub adds_more : (old mid new : Checker Global) → AddsClaims old mid (record { before = a; after = b; failed_before = p; failed_after = q })
      → AddsClaims mid new (record { before = b; after = c; failed_before = q; failed_after = r })
      → AddsClaims old new (record { before = a; after = c; failed_before = p; failed_after = r })
  adds_more old mid new (xs, first, takes) (ys, second, more) =
      (xs ++ ys, writes_more xs ys first second, λ goal board text taken. subst (λ (l : List ℕ). HasTakenText goal board new l) (behind text xs ys) (more goal board (text ++ claim_lines xs) (takes goal board text taken)))

  pub all_more : (old mid : Checker Global) → AddsClaims old mid (record { before = a; after = b; failed_before = p; failed_after = q })
      → AddsAll mid (record { before = b; after = c; failed_before = q; failed_after = r })
      → AddsAll old (record { before = a; after = c; failed_before = p; failed_after = r })
  all_more old mid (xs, first, takes) (ys, second, whole) = (
    xs ++ ys,
    writes_more xs ys first second,
    λ goal board text taken.
        let one = whole goal board (text ++ claim_lines xs) (takes goal board text taken) in
        (one.0, subst (λ (l : List ℕ). IsCertificate goal board one.0 l) (behind text xs ys) one.1),
  )

  pub stops_more : (old mid : Checker Global) (maker : Certificate) (cut : Cut) → AddsClaims old mid (record { before = a; after = b; failed_before = p; failed_after = q })
      → StopsClaims mid maker (record { before = b; after = c; failed_before = q; failed_after = r }) cut
      → StopsClaims old maker (record { before = a; after = c; failed_before = p; failed_after = r }) cut
  stops_more old mid maker NoMemory (xs, first, takes) (ys, second) = (xs ++ ys, writes_more xs ys first second)
  stops_more old mid maker WriteFailed (xs, (first, none), takes) (ys, (taken, rest, is, grown), one) = (
    xs ++ ys,
    (
      claim_lines xs ++ taken,
      rest,
      flat_map-append claim_line xs ys ∙ ap (λ (l : List ℕ). claim_lines xs ++ l) is ∙ sym (append_assoc (claim_lines xs) taken rest),
      Appends-trans a b c (claim_lines xs) taken first grown,
    ),
    one ∙ ap (λ (n : ℕ). n + 1) none,
  )
  stops_more old mid maker (Refused why) (xs, first, takes) (ys, second, refuses) = (xs ++ ys, writes_more xs ys first second, refuses_next_more old mid maker xs ys why takes refuses)

-- ---- runs

pub gives_up : (ending : Ending) → Refuses ending refusal.NoMemory → Finishes ending no_memory 3
gives_up ending (inl whole) = whole
gives_up ending (inr whole) = whole

pub certificate_refused : (subject : Subject) (limits : Limits) (ending : Ending) (why : Refusal)
    → (why ≡ refusal.NoMemory) ⊎ ShowsPosition subject.goal limits subject.fen.now (refused why) → Refuses ending why → WritesCertificate subject limits ending
certificate_refused subject limits ending why (inl none) refuses = inr (inr (gives_up ending (subst (λ (w : Refusal). Refuses ending w) none refuses)))
certificate_refused subject limits ending why (inr shows) refuses = inr (inl (why, shows, refuses))

module _ (goal : Goal) (board : PlainBoard) (answer : Answer) (begun : Begun) (begins : HasAnswerLine goal board answer begun) (a b c : Option (List ℕ)) (p q r : ℕ) where
  pub first_cut : (status : ℕ) → status ≡ 4 → AppendsBeginning a b (vec_items begun.line) → q ≡ p + 1
      → WritesClaims goal board answer (record { before = a; after = b; failed_writes = q - p; status = status })
  first_cut status four (taken, rest, cut, grown) one =
      ([], inl (inr ((taken, rest, append-nil (answer_text goal answer) ∙ (sym begins.line ∙ cut), grown), omega (arith, one), four), λ none. absurd (omega (arith, none, four))))

  -- the certificate of lines behind the answer's is one of that answer
  of_answer : (lines : List (List Word)) → ((told : Answer) × IsCertificate goal board told (answer_text goal answer ++ claim_lines lines)) → IsCertificate goal board answer (answer_text goal answer ++ claim_lines lines)
  of_answer lines (told, is) =
      let begun_so : answer_text goal answer ++ claim_lines lines ≡ first_line goal answer ++ 10 ∷ claim_lines lines =
      ap (λ (l : List ℕ). l ++ claim_lines lines) (answer_line goal answer) ∙ append_assoc (first_line goal answer) (10 ∷ []) (claim_lines lines) in
      let same : told ≡ answer = begun_answer goal board answer told (claim_lines lines) begins.range begins.named (subst (λ (l : List ℕ). IsCertificate goal board told l) begun_so is) in
      subst (λ (x : Answer). IsCertificate goal board x (answer_text goal answer ++ claim_lines lines)) same is

  module _ (written : Appends a b (vec_items begun.line)) (none : q ≡ p) where
    first : Appends a b (answer_text goal answer)
    first = subst (λ (l : List ℕ). Appends a b l) begins.line written

    pub whole_certificate : AddsAll begun.certificate.checker (record { before = b; after = c; failed_before = q; failed_after = r })
        → WritesClaims goal board answer (record { before = a; after = c; failed_writes = r - p; status = 0 })
    whole_certificate (lines, (more, same), whole) = (
      lines,
      inl (
        inl (Appends-trans a b c (answer_text goal answer) (claim_lines lines) first more, omega (arith, none, same), refl),
        λ zero. of_answer lines (whole goal board (answer_text goal answer) begins.taken),
      ),
    )

    pub claims_cut : (status : ℕ) → status ≡ 4 → CutsClaims (record { before = b; after = c; failed_before = q; failed_after = r })
        → WritesClaims goal board answer (record { before = a; after = c; failed_writes = r - p; status = status })
    claims_cut status four (lines, (taken, rest, cut, grown), one) = (
      lines,
      inl (
        inr (
          (
            answer_text goal answer ++ taken,
            rest,
            ap (λ (l : List ℕ). answer_text goal answer ++ l) cut ∙ sym (append_assoc (answer_text goal answer) taken rest),
            Appends-trans a b c (answer_text goal answer) taken first grown,
          ),
          omega (arith, none, one),
          four,
        ),
        λ zero. absurd (omega (arith, zero, four)),
      ),
    )

    module _ (d : Option (List ℕ)) (s status : ℕ) where
      pub no_room : ((lines : List (List Word)) × WritesLines (record { before = b; after = c; failed_before = q; failed_after = r }) lines)
          → Finishes (record { before = c; after = d; failed_writes = s - r; status = status }) no_memory 3
          → WritesClaims goal board answer (record { before = a; after = d; failed_writes = s - p; status = status })
      no_room (lines, (more, same)) last =
          (lines, inr (inl (finishes_after a c d p r s status 3 (answer_text goal answer ++ claim_lines lines) no_memory (Appends-trans a b c (answer_text goal answer) (claim_lines lines) first more) (omega (arith, none, same)) last)))

      pub not_taken : (why : Refusal) (maker : Certificate) → StopsClaims begun.certificate.checker maker (record { before = b; after = c; failed_before = q; failed_after = r }) (Refused why)
          → Refuses (record { before = c; after = d; failed_writes = s - r; status = status }) why
          → WritesClaims goal board answer (record { before = a; after = d; failed_writes = s - p; status = status })
      not_taken why maker (lines, written, told) (inr last) = no_room (lines, written) last
      not_taken why maker (lines, (more, same), told) (inl last) =
          let left = refused_text begun.certificate.checker maker lines why told in (
            lines,
            inr (inr (
              why,
              left.0,
              left.1 goal board (answer_text goal answer) begins.taken,
              finishes_after a c d p r s status (refused why).status (answer_text goal answer ++ claim_lines lines) (refused why).text (Appends-trans a b c (answer_text goal answer) (claim_lines lines) first more) (omega (arith, none, same)) last,
            )),
          )
