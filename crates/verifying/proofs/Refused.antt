-- What a checker has taken, what it refuses and that it is no certificate, and what it proves.
use Rattle.std.proofs.Common.{◌≡◌, ℕ, ◌+◌, ◌<◌, List, [], ◌++◌, length, Option, None, Some, sym, ap, subst, Err, inl, inr, ◌≤◌, ◌∷◌, map, refl, ◌∙◌, arith, append_assoc, length-append, All, ◌↔◌, nat_lt, Bool, true, false, if◌then◌else◌}
use Rattle.verifying.proofs.Common.{PlainBoard, Goal, Answer, Claim, HasNoFeed, Fault, TooLong, Part, HasRead, answer_of, IsEnded, ReadsLine, ReadsOn, IsLineOf, ReadsWords, begun_claims, begun_part, part_behind, AreLines, TellsOf, IsClaimLine, fed, All-cons, All-nil, All-weaker, All-push, First, Win, Yes, Lesser, No, first_line, HasFirstLine, IsInRange, HasNamedMove, words_line, IsCertificate, IsRefusedWith, flat_map-append, append-nil, same_Some, Checker, Mate, Word, HasTakenText, TakesMore, RefusesMore, IsProvedBy, FindsOnly, none-some, IsNoCertificate}
use Rattle.verifying.specs.Taking.{fault_at}
use Rattle.verifying.proofs.Making.{finds_none}
use Rattle.verifying.proofs.Feeds.{IsBrief, answer_brief, line_no_feed, left_over, next_of, none_of, long_of}
use Rattle.verifying.proofs.OneAnswer.{one_answer, certificate_named}
use Rattle.verifying.proofs.Reading.{certificate_read, certificate_of}
use Rattle.verifying.proofs.Grown.{none_apart, reads_apart}
use Rattle.verifying.proofs.Sound.{certificate_certifies}
use Rattle.verifying.proofs.Spelling.{one_line}
use Rattle.problems.specs.declared.answer.Answer.TheVariants as answer

module _ (goal : Goal) (b : PlainBoard) where
  -- ---- lines that are read

  read_brief : (part next : Part) (line : List ℕ) (old new : List Claim) → ReadsLine goal b part line old next new → IsBrief 8192 line
  read_brief part next line old new (inl (first, (told, range, named, spelled, is, made))) = subst (IsBrief 8192) (sym spelled) (answer_brief goal told range)
  read_brief part next line old new (inr (words, spelled, small, read)) = (small, subst HasNoFeed (sym spelled) (line_no_feed words))

  all_no_feed : (part : Part) (claims : List Claim) (lines : List (List ℕ)) (told : Answer) → ReadsOn goal b part claims lines told → All HasNoFeed lines
  all_no_feed part claims [] told ended = All-nil HasNoFeed
  all_no_feed part claims (line ∷ lines) told (next, new, read, rest) = All-cons HasNoFeed line lines (read_brief part next line claims new read).1 (all_no_feed next new lines told rest)

  grammar_no_feed : (o : Option Answer) (lines : List (List ℕ)) → AreLines goal o lines → All HasNoFeed lines
  grammar_no_feed None lines none = subst (All HasNoFeed) (sym none) (All-nil HasNoFeed)
  grammar_no_feed (Some told) lines (range, (claims, is, are)) =
      subst (All HasNoFeed) (sym is) (All-cons HasNoFeed (first_line goal told) claims (answer_brief goal told range).1
      (All-weaker IsClaimLine HasNoFeed (λ line words. subst HasNoFeed (sym words.1) (line_no_feed words.0)) claims are))

  -- what a certificate has behind what was read of it
  certificate_left : (number : ℕ) (part : Part) (claims : List Claim) (text rest : List ℕ) (mine : Answer) → HasRead goal b number part claims text → IsCertificate goal b mine (text ++ rest) → (more : List (List ℕ)) × ReadsOn goal b part claims more mine × (fed more ≡ rest)
  certificate_left number part claims text rest mine read certificate =
      let xs : List (List ℕ) = first_line goal mine ∷ map words_line certificate.lines in
      let reads = certificate_read goal b mine (text ++ rest) certificate in
      let left = left_over xs read.lines rest (all_no_feed First [] xs mine reads) (grammar_no_feed (answer_of part) read.lines read.grammar) (sym certificate.spelled ∙ ap (λ (l : List ℕ). l ++ rest) read.spelled) in
      (left.0, (read.left left.0 mine).0 (subst (λ (l : List (List ℕ)). ReadsOn goal b First [] l mine) left.1 reads), left.2)

-- ---- the answer with which a certificate begins

pub certificate_begins : (goal : Goal) (b : PlainBoard) (answer : Answer) (text : List ℕ) → IsCertificate goal b answer text → HasFirstLine goal answer text
certificate_begins goal b answer text certificate =
    (certificate.range, (fed (map words_line certificate.lines), certificate.spelled ∙ append_assoc (first_line goal answer) (10 ∷ []) (fed (map words_line certificate.lines))))

pub begun_answer : (goal : Goal) (b : PlainBoard) (told answer : Answer) (rest : List ℕ) → IsInRange told → HasNamedMove told → IsCertificate goal b answer (first_line goal told ++ 10 ∷ rest) → answer ≡ told
begun_answer goal b told answer rest range named certificate =
    let text = first_line goal told ++ 10 ∷ rest in
    let xs : List (List ℕ) = first_line goal answer ∷ map words_line certificate.lines in
    let next = next_of xs (first_line goal told) rest (all_no_feed goal b First [] xs answer (certificate_read goal b answer text certificate)) (answer_brief goal told range).1 (sym certificate.spelled) in
    let is : first_line goal answer ≡ first_line goal told = cc (next.1) in
    one_answer goal answer told certificate.range range (certificate_named goal b answer text certificate) named is

-- ---- what a line is found to be

module _ (goal : Goal) (b : PlainBoard) (line : List ℕ) where
  -- the answer of the first line
  pub answer_found : (part : Part) (old claims : List Claim) (answer : Answer) (next : Part) → part ≡ First → IsInRange answer → HasNamedMove answer → line ≡ first_line goal answer → next ≡ begun_part answer → claims ≡ begun_claims b answer → FindsOnly (ReadsLine goal b part line old) (Some next) claims
  answer_found part old claims answer next first range named is comes made other new =
      (to, λ it. inl (first, (answer, range, named, is, sym (same_Some next other it.0) ∙ comes, it.1 ∙ made)))
    where
      to : ReadsLine goal b part line old other new → (Some next ≡ Some other) × (new ≡ claims)
      to (inl (also, (mine, in_range, named_too, spelled, begun, begun_made))) =
          let one : mine ≡ answer = one_answer goal mine answer in_range range named_too named (sym spelled ∙ is) in
          (ap Some (comes ∙ sym (begun ∙ ap begun_part one)), begun_made ∙ (ap (begun_claims b) one ∙ sym made))
      to (inr (words, spelled, small, (is_line, behind))) = absurd (subst (λ (p : Part). IsLineOf goal b p words old new) first is_line)

  -- or what words show
  pub words_found : (part : Part) (old claims : List Claim) (found : Option Part) (words : List Word) → (part ≡ First → ⊥) → line ≡ words_line words → length line ≤ 8192 → FindsOnly (ReadsWords goal b part words old) found claims → FindsOnly (ReadsLine goal b part line old) found claims
  words_found part old claims found words other is small h next new = (
    λ reads. elim reads [ inl told ↦ absurd (other told.0) | inr read ↦ (h next new).0 (subst (λ (l : List Word). ReadsWords goal b part l old next new) (one_line read.0 words (sym read.1 ∙ is)) read.3) ],
    λ it. inr (words, is, small, (h next new).1 it),
  )

  pub no_words_found : (part : Part) (old claims : List Claim) → (part ≡ First → ⊥) → ((words : List Word) → line ≡ words_line words → ⊥) → FindsOnly (ReadsLine goal b part line old) None claims
  no_words_found part old claims other none =
      finds_none (ReadsLine goal b part line old) claims (λ next new reads. elim reads [ inl answer ↦ other answer.0 | inr words ↦ none words.0 words.1 ])

-- ---- what was read

-- nothing was read yet
nothing_read : (goal : Goal) (b : PlainBoard) → HasRead goal b 0 First [] []
nothing_read goal b = record {
  lines = [];
  spelled = refl;
  count = refl;
  grammar = refl;
  apart = none_apart;
  left = λ more told. (λ reads. reads, λ reads. reads);
}

-- a line of words leaves the answer as it is
behind_yes_told : (mate : Mate) (place : ℕ) (less : Bool) → answer_of (if less then Yes mate place else Lesser mate) ≡ Some (answer.Mate mate.plies mate.first)
behind_yes_told mate place true = refl
behind_yes_told mate place false = refl

still_told : (goal : Goal) (b : PlainBoard) (part : Part) (words : List Word) (old new : List Claim) (n : ℕ) → IsLineOf goal b part words old new → (told : Answer) × (answer_of part ≡ Some told) × (answer_of (part_behind part n) ≡ Some told)
still_told goal b First words old new n line = absurd line
still_told goal b (Win mate) words old new n line = (answer.Mate mate.plies mate.first, refl, behind_yes_told mate 1 (nat_lt 1 n))
still_told goal b (Yes mate place) words old new n line = (answer.Mate mate.plies mate.first, refl, behind_yes_told mate (place + 1) (nat_lt (place + 1) n))
still_told goal b (Lesser mate) words old new n line = (answer.Mate mate.plies mate.first, refl, refl)
still_told goal b (No told place) words old new n line = (told, refl, refl)

begun_told : (told : Answer) → answer_of (begun_part told) ≡ Some told
begun_told (answer.Mate n first) = refl
begun_told (answer.NoneWithin limit) = refl

grammar_more : (goal : Goal) (b : PlainBoard) (part next : Part) (line : List ℕ) (old new : List Claim) (lines : List (List ℕ)) → ReadsLine goal b part line old next new → AreLines goal (answer_of part) lines → AreLines goal (answer_of next) (lines ++ line ∷ [])
grammar_more goal b part next line old new lines (inl (first, (told, range, named, spelled, is, made))) are =
    let none : lines ≡ [] = subst (λ (p : Part). AreLines goal (answer_of p) lines) first are in
    subst (λ (o : Option Answer). AreLines goal o (lines ++ line ∷ [])) (sym (ap answer_of is ∙ begun_told told))
    (range, ([], ap (λ (l : List (List ℕ)). l ++ line ∷ []) none ∙ ap (λ (l : List ℕ). l ∷ []) spelled, All-nil IsClaimLine))
grammar_more goal b part next line old new lines (inr (words, spelled, small, (is_line, is))) are =
    let (told, was, comes) = still_told goal b part words old new (length new) is_line in
    let (range, (claims, these, each)) = subst (λ (o : Option Answer). AreLines goal o lines) was are in
    subst (λ (o : Option Answer). AreLines goal o (lines ++ line ∷ [])) (sym (ap answer_of is ∙ comes))
    (range, (claims ++ line ∷ [], ap (λ (l : List (List ℕ)). l ++ line ∷ []) these, All-push IsClaimLine claims line each (words, spelled)))

-- a line more
line_read : (goal : Goal) (b : PlainBoard) (number : ℕ) (part next : Part) (before claims : List Claim) (text line : List ℕ) → FindsOnly (ReadsLine goal b part line before) (Some next) claims → HasRead goal b number part before text → HasRead goal b (number + 1) next claims (text ++ (line ++ 10 ∷ []))
line_read goal b number part next before claims text line found so_far =
    let reads : ReadsLine goal b part line before next claims = (found next claims).1 (refl, refl) in
    record {
      lines = so_far.lines ++ line ∷ [];
      spelled = ap (λ (l : List ℕ). l ++ (line ++ 10 ∷ [])) so_far.spelled ∙ sym (fed_more so_far.lines);
      count = omega (arith, so_far.count, length-append so_far.lines (line ∷ []));
      grammar = grammar_more goal b part next line before claims so_far.lines reads so_far.grammar;
      apart = reads_apart goal b part next line before claims reads so_far.apart;
      left = λ more told. subst (λ (l : List (List ℕ)). ReadsOn goal b First [] l told ↔ ReadsOn goal b next claims more told) (sym (append_assoc so_far.lines (line ∷ []) more)) (
        λ whole. here more told ((so_far.left (line ∷ more) told).0 whole),
        λ rest. (so_far.left (line ∷ more) told).1 (next, claims, reads, rest),
      );
    }
  where
    fed_more : (lines : List (List ℕ)) → fed (lines ++ line ∷ []) ≡ fed lines ++ (line ++ 10 ∷ [])
    fed_more lines = flat_map-append (λ (l : List ℕ). l ++ 10 ∷ []) lines (line ∷ []) ∙ ap (λ (x : List ℕ). fed lines ++ x) (append-nil (line ++ 10 ∷ []))

    here : (more : List (List ℕ)) (told : Answer) → ReadsOn goal b part before (line ∷ more) told → ReadsOn goal b next claims more told
    here more told (other, new, read, rest) =
        let one = (found other new).0 read in
        subst (λ (p : Part). ReadsOn goal b p claims more told) (sym (same_Some next other one.0)) (subst (λ (l : List Claim). ReadsOn goal b other l more told) one.1 rest)

-- ---- checkers

-- what is so of a checker's goal and position is so of those that it is of
both : {A : Type 0} (goal : Goal) (b : PlainBoard) (checker : Checker A) (text : List ℕ) (P : Goal → PlainBoard → Type 0) → HasTakenText goal b checker text → P checker.goal checker.board → P goal b
both goal b checker text P taken so = subst (λ (x : PlainBoard). P goal x) taken.board_is (subst (λ (x : Goal). P x checker.board) taken.goal_is so)

-- the line of an answer was taken
pub answer_taken : {A : Type 0} (goal : Goal) (b : PlainBoard) (answer : Answer) (checker : Checker A) → IsInRange answer → HasNamedMove answer → checker.goal ≡ goal → checker.board ≡ b → checker.number ≡ 1 → checker.part ≡ begun_part answer → checker.claims ≡ begun_claims b answer → HasTakenText goal b checker (first_line goal answer ++ 10 ∷ [])
answer_taken goal b answer checker range named goal_is board_is one is made =
    let line = first_line goal answer in
    record {
      goal_is = goal_is;
      board_is = board_is;
      read = subst (λ (n : ℕ). HasRead goal b n checker.part checker.claims (line ++ 10 ∷ [])) (sym one)
          (line_read goal b 0 First checker.part [] checker.claims [] line (answer_found goal b line First [] checker.claims answer checker.part refl range named refl is made) (nothing_read goal b));
    }

-- a line more was taken
pub line_taken : {A : Type 0} (old new : Checker A) (line : List ℕ) → new.goal ≡ old.goal → new.board ≡ old.board → new.number ≡ old.number + 1 → FindsOnly (ReadsLine old.goal old.board old.part line old.claims) (Some new.part) new.claims → TakesMore old new (line ++ 10 ∷ [])
line_taken old new line goal_is board_is counts found goal b text taken = record {
  goal_is = goal_is ∙ taken.goal_is;
  board_is = board_is ∙ taken.board_is;
  read = subst (λ (n : ℕ). HasRead goal b n new.part new.claims (text ++ (line ++ 10 ∷ []))) (sym counts)
      (line_read goal b old.number old.part new.part old.claims new.claims text line (both goal b old text (λ (g : Goal) (x : PlainBoard). FindsOnly (ReadsLine g x old.part line old.claims) (Some new.part) new.claims) taken found) taken.read);
}

-- the fault of the next line tells of the text
fault_told : (goal : Goal) (number : ℕ) (o : Option Answer) (lines : List (List ℕ)) (text more : List ℕ) → AreLines goal o lines → text ≡ fed lines → number ≡ length lines → TellsOf goal (text ++ more) (Err (fault_at o number))
fault_told goal number None lines text more are spelled count = tt
fault_told goal number (Some told) lines text more are spelled count = (told, lines, more, are, ap (λ (l : List ℕ). l ++ more) spelled, ap (λ (n : ℕ). n + 1) count)

module _ {A : Type 0} (checker : Checker A) where
  refused : (fault : Fault) (goal : Goal) (b : PlainBoard) (text more : List ℕ) → fault ≡ fault_at (answer_of checker.part) checker.number → HasTakenText goal b checker text → IsNoCertificate goal b (text ++ more) → IsRefusedWith goal b fault (text ++ more)
  refused fault goal b text more is taken none = (
    subst (λ (f : Fault). TellsOf goal (text ++ more) (Err f)) (sym is) (fault_told goal checker.number (answer_of checker.part) taken.read.lines text more taken.read.grammar taken.read.spelled taken.read.count),
    none,
  )

  -- a line is refused
  pub line_wrong : (line rest : List ℕ) (claims : List Claim) (fault : Fault) → fault ≡ fault_at (answer_of checker.part) checker.number → FindsOnly (ReadsLine checker.goal checker.board checker.part line checker.claims) None claims → HasNoFeed line → RefusesMore checker (line ++ 10 ∷ rest) fault
  line_wrong line rest claims fault is wrong none goal b text taken = refused fault goal b text (line ++ 10 ∷ rest) is taken (λ mine certificate.
      let (more, reads, left) = certificate_left goal b checker.number checker.part checker.claims text (line ++ 10 ∷ rest) mine taken.read certificate in
      let next = next_of more line rest (all_no_feed goal b checker.part checker.claims more mine reads) none left in
      let here = subst (λ (l : List (List ℕ)). ReadsOn goal b checker.part checker.claims l mine) next.1 reads in
      let found = both goal b checker text (λ (g : Goal) (x : PlainBoard). FindsOnly (ReadsLine g x checker.part line checker.claims) None claims) taken wrong in
      none-some here.0 ((found here.0 here.1).0 here.2).0)

  pub line_long : (line rest : List ℕ) (fault : Fault) → fault ≡ TooLong → 8192 < length line → HasNoFeed line → RefusesMore checker (line ++ rest) fault
  line_long line rest fault is long none goal b text taken = subst (λ (f : Fault). IsRefusedWith goal b f (text ++ (line ++ rest))) (sym is) (
    (taken.read.lines, line, rest, none, long, ap (λ (l : List ℕ). l ++ (line ++ rest)) taken.read.spelled),
    λ mine certificate.
        let (more, reads, left) = certificate_left goal b checker.number checker.part checker.claims text (line ++ rest) mine taken.read certificate in
        let (x, others, first, longer) = long_of more line rest none (omega (arith, long)) left in
        let here = subst (λ (l : List (List ℕ)). ReadsOn goal b checker.part checker.claims l mine) first reads in
        omega (arith, (read_brief goal b checker.part here.0 x checker.claims here.1 here.2).0, longer, long),
  )

  -- the end
  pub end_wrong : (rest : List ℕ) (fault : Fault) → fault ≡ fault_at (answer_of checker.part) checker.number → (rest ≡ [] → (told : Answer) → IsEnded checker.part checker.claims told → ⊥) → HasNoFeed rest → RefusesMore checker rest fault
  end_wrong rest fault is wrong none goal b text taken = refused fault goal b text rest is taken (λ mine certificate.
      let (more, reads, left) = certificate_left goal b checker.number checker.part checker.claims text rest mine taken.read certificate in
      let gone = none_of more rest none left in
      wrong gone.1 mine (subst (λ (l : List (List ℕ)). ReadsOn goal b checker.part checker.claims l mine) gone.0 reads))

pub end_proved : {A : Type 0} (checker : Checker A) (told : Answer) → IsEnded checker.part checker.claims told → IsProvedBy checker told
end_proved checker told ended goal b text taken =
    let reads = subst (λ (l : List (List ℕ)). ReadsOn goal b First [] l told) (append-nil taken.read.lines) ((taken.read.left [] told).1 ended) in
    let whole : IsCertificate goal b told text = subst (λ (l : List ℕ). IsCertificate goal b told l) (sym taken.read.spelled) (certificate_of goal b told taken.read.lines reads) in
    (whole, certificate_certifies goal b told text whole)
