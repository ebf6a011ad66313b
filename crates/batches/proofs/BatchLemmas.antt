-- A batch, line by line.
use Rattle.std.proofs.Common.{◌≡◌, ◌≢◌, ◌∙◌, ◌+◌, ◌-◌, ◌<◌, ℕ, zero, suc, Bool, true, false, List, [], ◌∷◌, ◌++◌, Option, None, Some, Result, Ok, Err, IfSome, IsErr, IsErrAnd, Vec, vec_items, length, take, drop, ap, inl, inr, refl, sym, subst, append_assoc, append-nil, drop-drop, length-append, ne_eqb, not, arith, All, MatchBool, ◌≤◌}
use Rattle.std.proofs.lemmas.Bool.{le-ltb}
use Rattle.std.proofs.lemmas.List.{drop_all, flat_map_more}
use Rattle.std.proofs.lemmas.List.Elements.{All-head, All-nil, All-push, All-tail}
use Rattle.std.proofs.lemmas.Option.{IfSome_then}
use Rattle.std.proofs.KnownBytes.{Appends-nil, Appends-trans, Consumes-nil, Consumes-trans}
use Rattle.std.specs.Io.KnownBytes.{Appends, Consumes}
use Rattle.std.specs.List.{AllZip}
use Rattle.std.specs.declared.alloc.Global.{Global}
use Rattle.batch_texts.specs.Forms.{IsFoundText, IsRefusalText}
use Rattle.batch_texts.specs.declared.asked.Asked.{Asked}
use Rattle.batch_texts.specs.declared.asked.Batch.{Batch}
use Rattle.devices.specs.Device.{AppendsBeginning}
use Rattle.devices.specs.Input.{OfInput, failed_reads, without_line_feed}
use Rattle.devices.specs.declared.transfer.InputFault.{InputFault}
use Rattle.devices.specs.declared.transfer.InputFault.TheVariants as input
use Rattle.context.specs.Limits.{fault_of, IsRefusedWithin}
use Rattle.context.proofs.Refused.{refused_by}
use Rattle.refusals.specs.declared.refusal.Refusal.{Refusal}
use Rattle.refusals.specs.declared.refusal.Refusal.TheVariants as refusal
use Rattle.batch_texts.specs.Said.{is_remark, said_in}
use Rattle.batch_texts.specs.Asking.{IsAskedIn, IsFoundAt}
use Rattle.batch_texts.specs.declared.asked.Found.{Found}
use Rattle.problems.specs.declared.problem.Problem.{Problem}
use Rattle.batches.specs.Batch.{AnswersLines, EndsBatch, HasReplyText, IsAskedReply, IsLineReply, IsUnnumberedReply, RefusesBatch, RunsBatch, answered_lines, joined, left_out, lines_of, next_number, numbered, onto, wanting_text, with_number, with_position}
use Rattle.batches.specs.BatchRun.{AsksProblem, Fails, GivesAsked, GivesNext, IsFirstOf, IsAskedRefusal, PassesOver, Step, TakesAnswered, TakesInput, TakesLines, TakesStep, stop_of}
use Rattle.input_lines.specs.Lines.{HasNoFeed, IsFed, IsLastOf, IsReadAs, TakesLine, left_of}
use Rattle.input_lines.specs.Mark.{SkipsMark, without_mark}
use Rattle.endings.specs.Run.{Ending, Finishes, Run}
use Rattle.batches.specs.declared.batch.BatchStop.{BatchStop}
use Rattle.batches.specs.declared.batch.BatchStop.TheVariants.{ReadFailed, WriteFailed, NoMemory}
use Rattle.input_lines.specs.declared.lines.Taken.{Taken}
use Rattle.input_lines.specs.declared.lines.Next.{Next}
use Rattle.input_lines.specs.declared.lines.Next.TheVariants.{Line}
use Rattle.input_lines.specs.declared.lines.Unread.{Unread}
use Rattle.devices.proofs.InputLemmas.{of_any, of_input_then}

-- ---- what a line says

-- why no problem is asked is why nothing is given
pub asked_refused : (batch : Batch) (asked : Asked) (r : Result (Vec ℕ Global) Refusal) (why : Refusal) → IsAskedRefusal batch asked why
    → IsErr r × IsErrAnd r (λ w. w ≡ why) → GivesAsked batch asked r
asked_refused batch asked (Ok text) why is err = absurd err.1
asked_refused batch asked (Err w) why is err = inr (subst (IsAskedRefusal batch asked) (sym err.1) is)

-- what is found at the problem that is asked is a reply
pub asked_gives : (batch : Batch) (asked : Asked) (problem : Problem) (found : Found) (text : List ℕ) → AsksProblem batch asked (Ok problem)
    → IsFoundAt batch.options.keys problem.goal problem.position problem.limit found → IsFoundText batch asked found text → IsAskedReply batch asked text
asked_gives batch asked problem found text (sound, none, is) at written =
    let goal = subst (λ goal. IsFoundAt batch.options.keys goal problem.position problem.limit found) is.plays_for at in
    inl (problem.position, sound, rw none (found, subst (λ n. IsFoundAt batch.options.keys batch.goal problem.position n found) is.within goal, written))

-- so it is with the position before it
pub found_reply : (batch : Batch) (said : List ℕ) (asked : Asked) (problem : Problem) (found : Found) (plain text : List ℕ) → is_remark said ≡ false → IsAskedIn said asked
    → AsksProblem batch asked (Ok problem) → IsFoundAt batch.options.keys problem.goal problem.position problem.limit found → IsFoundText batch asked found plain
    → text ≡ with_position batch said plain → HasReplyText batch said text
found_reply batch said asked problem found plain text none in_said asks at written is =
    (plain, rw none (asked, in_said, asked_gives batch asked problem found plain asks at written), is)

-- the text of a refusal is a reply
pub refusal_reply : (batch : Batch) (asked : Asked) (why : Refusal) (text : List ℕ) → IsAskedRefusal batch asked why
    → IsRefusalText batch.options.json (Some asked.fen.now) why text → IsAskedReply batch asked text
refusal_reply batch asked why text (inl (b, sound, (fault, is, same))) written =
    inl (b, sound, rw is (subst (λ w. IsRefusalText batch.options.json (Some asked.fen.now) w text) same written))
refusal_reply batch asked why text (inr (fault, is, same)) written =
    inr (fault, is, subst (λ w. IsRefusalText batch.options.json (Some asked.fen.now) w text) same written)

-- ---- lines

-- a line with its feed is the first of what begins with it
lines_fed : (raw rest : List ℕ) → HasNoFeed raw → lines_of (raw ++ 10 ∷ rest) ≡ (raw ++ 10 ∷ []) ∷ lines_of rest
lines_fed [] rest none = refl
lines_fed (x ∷ xs) rest none =
    rw (ne_eqb x 10 (All-head (λ y. y ≢ 10) x xs none)) (ap (onto x) (lines_fed xs rest (All-tail (λ y. y ≢ 10) x xs none)))

-- bytes without a feed are one line
lines_last : (line : List ℕ) → 0 < length line → HasNoFeed line → lines_of line ≡ line ∷ []
lines_last [] some none = absurd (omega (arith, some))
lines_last (x ∷ []) some none = rw (ne_eqb x 10 (All-head (λ y. y ≢ 10) x [] none)) refl
lines_last (x ∷ y ∷ ys) some none =
    rw (ne_eqb x 10 (All-head (λ z. z ≢ 10) x (y ∷ ys) none)) (ap (onto x) (lines_last (y ∷ ys) (omega arith) (All-tail (λ z. z ≢ 10) x (y ∷ ys) none)))

fed_first : (line rest : List ℕ) → IsFed line → lines_of (line ++ rest) ≡ line ∷ lines_of rest
fed_first line rest (raw, none, is) =
    ap (λ l. lines_of (l ++ rest)) is ∙ ap lines_of (append_assoc raw (10 ∷ []) rest) ∙ lines_fed raw rest none ∙ ap (λ l. l ∷ lines_of rest) (sym is)

-- lines with their feeds are the first of what begins with them
fed_front : (front : List (List ℕ)) (rest : List ℕ) → All IsFed front → lines_of (joined front ++ rest) ≡ front ++ lines_of rest
fed_front [] rest fed = refl
fed_front (line ∷ front) rest fed =
    ap lines_of (append_assoc line (joined front) rest) ∙ fed_first line (joined front ++ rest) (All-head IsFed line front fed)
    ∙ ap (λ l. line ∷ l) (fed_front front rest (All-tail IsFed line front fed))

joined_more : (texts : List (List ℕ)) (text : List ℕ) → joined texts ++ text ≡ joined (texts ++ text ∷ [])
joined_more texts text = flat_map_more (λ t. t) [] texts text

joined_all : (texts others : List (List ℕ)) → joined texts ++ joined others ≡ joined (texts ++ others)
joined_all [] others = refl
joined_all (text ∷ texts) others = append_assoc text (joined texts) (joined others) ∙ ap (λ l. text ++ l) (joined_all texts others)

zip_all : {X Y : Type 0} (R : X → Y → Type 0) (xs us : List X) (ys vs : List Y) → AllZip R xs ys → AllZip R us vs → AllZip R (xs ++ us) (ys ++ vs)
zip_all R [] us [] vs p q = q
zip_all R [] us (y ∷ ys) vs p q = absurd p
zip_all R (x ∷ xs) us [] vs p q = absurd p
zip_all R (x ∷ xs) us (y ∷ ys) vs p q = (p.0, zip_all R xs us ys vs p.1 q)

-- ---- numbers

-- the number of the last of the lines, behind a line of this number
abbrev pub number_behind : ℕ → List (List ℕ) → ℕ
number_behind number [] = number
number_behind number (line ∷ lines) = number_behind (next_number number) lines

numbered_all : (number : ℕ) (front rest : List (List ℕ)) → numbered number (front ++ rest) ≡ numbered number front ++ numbered (number_behind number front) rest
numbered_all number [] rest = refl
numbered_all number (line ∷ front) rest = ap (λ l. (next_number number, line) ∷ l) (numbered_all (next_number number) front rest)

behind_all : (number : ℕ) (front rest : List (List ℕ)) → number_behind number (front ++ rest) ≡ number_behind (number_behind number front) rest
behind_all number [] rest = refl
behind_all number (line ∷ front) rest = behind_all (next_number number) front rest

-- the replies to lines, and then those to others
zip_numbered : (batch : Batch) (start number : ℕ) (front lines texts others : List (List ℕ)) → number ≡ number_behind start front
    → AllZip (IsLineReply batch) (numbered start front) texts → AllZip (IsLineReply batch) (numbered number lines) others
    → AllZip (IsLineReply batch) (numbered start (front ++ lines)) (texts ++ others)
zip_numbered batch start number front lines texts others behind zip more =
    subst (λ l. AllZip (IsLineReply batch) l (texts ++ others)) (sym (numbered_all start front lines))
    (zip_all (IsLineReply batch) (numbered start front) (numbered (number_behind start front) lines) texts others zip
    (subst (λ n. AllZip (IsLineReply batch) (numbered n lines) others) behind more))

-- ---- lines so far

-- the replies to lines with their feeds are written, the last of this number, and those lines are gone
abbrev pub KeptSoFar : Batch → ℕ → ℕ → Option (List ℕ) → Option (List ℕ) → Option (List ℕ) → Option (List ℕ) → Type 0
KeptSoFar batch start number left now written written_now = (front : List (List ℕ)) × (texts : List (List ℕ)) × (number ≡ number_behind start front) × All IsFed front
    × AllZip (IsLineReply batch) (numbered start front) texts × Consumes left now (joined front) × Appends written written_now (joined texts)

pub kept_first : (batch : Batch) (number : ℕ) (left written : Option (List ℕ)) → KeptSoFar batch number number left left written written
kept_first batch number left written = ([], [], refl, All-nil IsFed, tt, Consumes-nil left, Appends-nil written)

-- a reply for the same question
same_reply : (batch later : Batch) (line : ℕ × List ℕ) (text : List ℕ) → later ≡ batch → IsLineReply later line text → IsLineReply batch line text
same_reply batch later line text same reply = subst (λ b. IsLineReply b line text) same reply

same_replies : (batch later : Batch) (lines : List (ℕ × List ℕ)) (texts : List (List ℕ)) → later ≡ batch → AllZip (IsLineReply later) lines texts → AllZip (IsLineReply batch) lines texts
same_replies batch later lines texts same zip = subst (λ b. AllZip (IsLineReply b) lines texts) same zip

pub kept_more : (batch later : Batch) (start next : ℕ) (left : Option (List ℕ)) (step : Step) (written : Option (List ℕ)) → later ≡ batch → next ≡ next_number step.number
    → KeptSoFar batch start step.number left step.left written step.written → TakesStep later step (Ok true)
    → KeptSoFar batch start next left step.left_after written step.written_after
kept_more batch later start next left step written same counts (front, texts, behind, fed, zip, gone, appended) (line, text, feeds, taken, reply, grown, none) = (
  front ++ line ∷ [],
  texts ++ text ∷ [],
  counts ∙ ap next_number behind ∙ sym (behind_all start front (line ∷ [])),
  All-push IsFed front line fed feeds,
  zip_numbered batch start step.number front (line ∷ []) texts (text ∷ []) behind zip (same_reply batch later (next_number step.number, line) text same reply, tt),
  subst (Consumes left step.left_after) (joined_more front line) (Consumes-trans left step.left step.left_after (joined front) line gone taken),
  subst (Appends written step.written_after) (joined_more texts text) (Appends-trans written step.written step.written_after (joined texts) text appended grown),
)

-- ---- the end

nothing_more : (written mid after : Option (List ℕ)) (text : List ℕ) → Appends written mid text → Appends mid after [] → Appends written after text
nothing_more written mid after text grown none = subst (Appends written after) (append-nil text) (Appends-trans written mid after text [] grown none)

-- the lines that are answered, where others may be left
front_answered : (batch : Batch) (start status : ℕ) (left now : Option (List ℕ)) (front texts : List (List ℕ)) → (status ≡ 0 → ⊥) → All IsFed front
    → AllZip (IsLineReply batch) (numbered start front) texts → Consumes left now (joined front)
    → OfInput left (λ input. AnswersLines batch status texts (numbered start (lines_of input)))
front_answered batch start status None now front texts other fed zip gone = (
  joined front,
  tt,
  (
    numbered start front,
    [],
    ap (numbered start) (ap lines_of (sym (append-nil (joined front))) ∙ fed_front front [] fed) ∙ numbered_all start front [],
    zip,
    λ e. absurd (other e),
  ),
)
front_answered batch start status (Some xs) None front texts other fed zip gone = absurd gone
front_answered batch start status (Some xs) (Some ys) front texts other fed zip gone = (
  xs,
  refl,
  (
    numbered start front,
    numbered (number_behind start front) (lines_of ys),
    ap (numbered start) (ap lines_of gone ∙ fed_front front ys fed) ∙ numbered_all start front (lines_of ys),
    zip,
    λ e. absurd (other e),
  ),
)

-- the same with one line more
one_answered : (batch : Batch) (start status : ℕ) (left now : Option (List ℕ)) (front texts : List (List ℕ)) (line text : List ℕ) → (status ≡ 0 → ⊥)
    → All IsFed front → AllZip (IsLineReply batch) (numbered start (front ++ line ∷ [])) (texts ++ text ∷ []) → Consumes left now (joined front) → IsFirstOf now line
    → OfInput left (λ input. AnswersLines batch status (texts ++ text ∷ []) (numbered start (lines_of input)))
one_answered batch start status None now front texts line text other fed zip gone (one, first) = (
  joined front ++ line,
  tt,
  (
    numbered start (front ++ line ∷ []),
    [],
    ap (numbered start) (fed_front front line fed ∙ ap (λ l. front ++ l) one) ∙ sym (append-nil (numbered start (front ++ line ∷ []))),
    zip,
    λ e. absurd (other e),
  ),
)
one_answered batch start status (Some xs) None front texts line text other fed zip gone first = absurd gone
one_answered batch start status (Some xs) (Some ys) front texts line text other fed zip gone (one, (rest, first)) = (
  xs,
  refl,
  (
    numbered start (front ++ line ∷ []),
    numbered (number_behind start (front ++ line ∷ [])) rest,
    ap (numbered start) (ap lines_of gone ∙ fed_front front ys fed ∙ ap (λ l. front ++ l) first ∙ sym (append_assoc front (line ∷ []) rest))
        ∙ numbered_all start (front ++ line ∷ []) rest,
    zip,
    λ e. absurd (other e),
  ),
)

-- bytes that are gone, and then the last ones
gone_then_last : (left now : Option (List ℕ)) (gone last : List ℕ) → Consumes left now gone → IfSome now (λ told. told ≡ last) → IfSome left (λ told. told ≡ gone ++ last)
gone_then_last None now gone last is end = tt
gone_then_last (Some xs) None gone last is end = absurd is
gone_then_last (Some xs) (Some ys) gone last is end = is ∙ ap (λ l. gone ++ l) end

-- from the first line to one step: what was seen before and after
abbrev pub whole_step : Step → ℕ → Option (List ℕ) → Option (List ℕ) → ℕ → ℕ → Step
whole_step step number left written reads writes = record step { number = number; left = left; written = written; failed_reads = reads; failed_writes = writes }

fails_since : (step : Step) (number : ℕ) (left written : Option (List ℕ)) (reads writes m n : ℕ) → step.failed_reads ≡ reads → step.failed_writes ≡ writes → Fails step m n
    → Fails (whole_step step number left written reads writes) m n
fails_since step number left written reads writes m n r w fails = (fails.0 ∙ ap (λ k. k + m) r, fails.1 ∙ ap (λ k. k + n) w)

pub lines_end : (batch later : Batch) (start : ℕ) (left : Option (List ℕ)) (step : Step) (written : Option (List ℕ)) (reads writes : ℕ) → later ≡ batch
    → step.failed_reads ≡ reads → step.failed_writes ≡ writes → KeptSoFar batch start step.number left step.left written step.written → TakesStep later step (Ok false)
    → TakesLines batch (whole_step step start left written reads writes) None
lines_end batch later start left step written reads writes same r w (front, texts, behind, fed, zip, gone, appended) (line, text, (none, last), (others, replies, is), grown, fails) = (
  texts ++ others,
  (
    joined front ++ line,
    gone_then_last left step.left (joined front) line gone last,
    (
      numbered start (front ++ lines_of line),
      [],
      ap (numbered start) (fed_front front line fed) ∙ sym (append-nil (numbered start (front ++ lines_of line))),
      zip_numbered batch start step.number front (lines_of line) texts others behind zip (same_replies batch later (numbered step.number (lines_of line)) others same replies),
      λ _. refl,
    ),
  ),
  (
    subst (Appends written step.written_after) (ap (λ l. joined texts ++ l) is ∙ joined_all texts others)
        (Appends-trans written step.written step.written_after (joined texts) text appended grown),
    fails_since step start left written reads writes 0 0 r w fails,
  ),
)

pub lines_stop : (batch later : Batch) (start : ℕ) (left : Option (List ℕ)) (step : Step) (written : Option (List ℕ)) (reads writes : ℕ) (stop : BatchStop) → later ≡ batch
    → step.failed_reads ≡ reads → step.failed_writes ≡ writes → KeptSoFar batch start step.number left step.left written step.written → TakesStep later step (Err stop)
    → TakesLines batch (whole_step step start left written reads writes) (Some stop)
lines_stop batch later start left step written reads writes ReadFailed same r w (front, texts, behind, fed, zip, gone, appended) (nothing, one) = (
  texts,
  front_answered batch start 4 left step.left front texts (λ e. absurd (omega (arith, e))) fed zip gone,
  (nothing_more written step.written step.written_after (joined texts) appended nothing, fails_since step start left written reads writes 1 0 r w one),
)
lines_stop batch later start left step written reads writes NoMemory same r w (front, texts, behind, fed, zip, gone, appended) (nothing, none) = (
  texts,
  front_answered batch start 3 left step.left front texts (λ e. absurd (omega (arith, e))) fed zip gone,
  (nothing_more written step.written step.written_after (joined texts) appended nothing, fails_since step start left written reads writes 0 0 r w none),
)
lines_stop batch later start left step written reads writes WriteFailed same r w (front, texts, behind, fed, zip, gone, appended) (line, text, first, reply, (taken, rest, cut, grown), one) = (
  texts ++ text ∷ [],
  one_answered batch start 4 left step.left front texts line text (λ e. absurd (omega (arith, e))) fed
      (zip_numbered batch start step.number front (line ∷ []) texts (text ∷ []) behind zip (same_reply batch later (next_number step.number, line) text same reply, tt)) gone first,
  (
    (
      joined texts ++ taken,
      rest,
      sym (joined_more texts text) ∙ ap (λ l. joined texts ++ l) cut ∙ sym (append_assoc (joined texts) taken rest),
      Appends-trans written step.written step.written_after (joined texts) taken appended grown,
    ),
    fails_since step start left written reads writes 0 1 r w one,
  ),
)

-- ---- one line

-- any other is answered by what it says
pub line_reply : (batch : Batch) (held : Vec ℕ Global) (text line : List ℕ) → IsReadAs line (Line held) → HasReplyText batch (said_in held.items) text
    → (0 < length line) × IsUnnumberedReply batch line text
line_reply batch held text line next reply =
    (next.0, rw (le-ltb 256 (length (without_line_feed line)) next.2) (subst (λ l. HasReplyText batch (said_in l) text) next.1 reply))

-- a reply to what a line says is one to the line
pub ahead_next : (batch : Batch) (held : Vec ℕ Global) (said : List ℕ) (text : Vec ℕ Global) → said ≡ said_in held.items → HasReplyText batch said (vec_items text)
    → GivesNext batch (Line held) (Some text)
ahead_next batch held said text is reply = λ line next. line_reply batch held (vec_items text) line next (subst (λ s. HasReplyText batch s (vec_items text)) is reply)

-- how a line was taken
abbrev IsTaken : Option (List ℕ) → Option (List ℕ) → Bool → List ℕ → Type 0
IsTaken left after is_last line = MatchBool is_last (IsLastOf left line) (IsFed line × Consumes left after line)

-- a line without a byte is the last
empty_last : (left after : Option (List ℕ)) (is_last : Bool) (line : List ℕ) → line ≡ [] → IsTaken left after is_last line → IsLastOf left line
empty_last left after true line none taken = taken
empty_last left after false line none ((raw, no_feed, is), gone) = absurd (omega (arith, ap length is, ap length none, length-append raw (10 ∷ [])))

-- a line that was taken is the first
first_taken : (left after : Option (List ℕ)) (is_last : Bool) (line : List ℕ) → 0 < length line → IsTaken left after is_last line → IsFirstOf left line
first_taken left after true line some (none, last) =
    let one = lines_last line some none in (one, IfSome_then left last (λ told same. ([], ap lines_of same ∙ one)))
first_taken None after false line some (fed, gone) = (ap lines_of (sym (append-nil line)) ∙ fed_first line [] fed, tt)
first_taken (Some xs) None false line some (fed, gone) = absurd gone
first_taken (Some xs) (Some ys) false line some (fed, gone) =
    (ap lines_of (sym (append-nil line)) ∙ fed_first line [] fed, (lines_of ys, ap lines_of gone ∙ fed_first line ys fed))

-- there was no line
pub step_ended : (batch : Batch) (step : Step) (taken : Taken) → TakesLine step.left step.left_after taken → GivesNext batch taken.next None
    → Appends step.written step.written_after [] → Fails step 0 0 → TakesStep batch step (Ok false)
step_ended batch step taken (line, how, read) gives grown fails =
    let none : line ≡ [] = gives line read in (
      line,
      [],
      empty_last step.left step.left_after taken.is_last line none how,
      ([], subst (λ l. AllZip (IsLineReply batch) (numbered step.number (lines_of l)) []) (sym none) tt, refl),
      grown,
      fails,
    )

-- a line was answered, and no more may come after the last one
pub step_written : (batch : Batch) (step : Step) (is_last : Bool) (next : Next) (plain : Vec ℕ Global) (text : List ℕ)
    → TakesLine step.left step.left_after (record { next = next; is_last = is_last }) → GivesNext batch next (Some plain)
    → text ≡ with_number batch.options.json (next_number step.number) (vec_items plain)
    → Appends step.written step.written_after text → Fails step 0 0 → TakesStep batch step (Ok (not is_last))
step_written batch step false next plain text (line, (fed, gone), read) gives is grown fails =
    (line, text, fed, gone, (vec_items plain, (gives line read).1, is), grown, fails)
step_written batch step true next plain text (line, (none, last), read) gives is grown fails =
    let (some, reply) = gives line read in (
      line,
      text,
      (none, last),
      (
        text ∷ [],
        subst (λ l. AllZip (IsLineReply batch) (numbered step.number l) (text ∷ [])) (sym (lines_last line some none)) ((vec_items plain, reply, is), tt),
        sym (append-nil text),
      ),
      grown,
      fails,
    )

-- a failed write ends the batch
pub step_unwritten : (batch : Batch) (step : Step) (r : Result Bool BatchStop) (taken : Taken) (plain : Vec ℕ Global) (text : List ℕ)
    → IsErr r × IsErrAnd r (λ stop. stop ≡ WriteFailed) → TakesLine step.left step.left_after taken → GivesNext batch taken.next (Some plain)
    → text ≡ with_number batch.options.json (next_number step.number) (vec_items plain)
    → AppendsBeginning step.written step.written_after text → Fails step 0 1 → TakesStep batch step r
step_unwritten batch step (Ok more) taken plain text err takes gives is cut fails = absurd err.1
step_unwritten batch step (Err stop) taken plain text err (line, how, read) gives is cut fails =
    let (some, reply) = gives line read in
    subst (λ x. TakesStep batch step (Err x)) (sym err.1)
    (line, text, first_taken step.left step.left_after taken.is_last line some how, (vec_items plain, reply, is), cut, fails)

-- ---- lines that are left out

-- the texts are the replies to the first of the lines that are answered
abbrev pub Answers : Batch → ℕ → List (List ℕ) → List ℕ → Type 0
Answers batch status texts input = AnswersLines batch status texts (answered_lines batch input)

pub passed_first : (left : Option (List ℕ)) → PassesOver 0 left left true
passed_first left = ([], λ rest. refl, Consumes-nil left)

pub passed_more : (count : ℕ) (left now after : Option (List ℕ)) (taken : Taken) → taken.is_last ≡ false → PassesOver count left now true → TakesLine now after taken
    → PassesOver (count + 1) left after true
passed_more count left now after taken not_last (bytes, front, gone) (line, how, read) =
    let (fed, more) = subst (λ last. IsTaken now after last line) not_last how in (
      bytes ++ line,
      λ rest. ap (λ l. drop (count + 1) (lines_of l)) (append_assoc bytes line rest) ∙ sym (drop-drop 1 count (lines_of (bytes ++ (line ++ rest))))
          ∙ ap (drop 1) (front (line ++ rest) ∙ fed_first line rest fed),
      Consumes-trans left now after bytes line gone more,
    )

-- bytes without a feed are one line at most
one_last : (line : List ℕ) → HasNoFeed line → length (lines_of line) ≤ 1
one_last [] none = omega arith
one_last (x ∷ xs) none = subst (λ (l : List (List ℕ)). length l ≤ 1) (sym (lines_last (x ∷ xs) (omega arith) none)) (omega arith)

-- the last line is among those that are passed over
pub passed_all : (count so_many : ℕ) (left now after : Option (List ℕ)) (taken : Taken) → so_many < count → taken.is_last ≡ true → PassesOver so_many left now true
    → TakesLine now after taken → PassesOver count left after false
passed_all count so_many left now after taken less is_last (bytes, front, gone) (line, how, read) =
    let (none, last) = subst (λ l. IsTaken now after l line) is_last how in
    let split : count ≡ so_many + (count - so_many) = omega (arith, less) in (
      bytes ++ line,
      gone_then_last left now bytes line gone last,
      ap (λ k. drop k (lines_of (bytes ++ line))) split ∙ sym (drop-drop (count - so_many) so_many (lines_of (bytes ++ line)))
          ∙ ap (drop (count - so_many)) (front line) ∙ drop_all (count - so_many) (lines_of line) (omega (arith, less, one_last line none)),
    )

-- the lines behind those that are passed over are those that are answered
answered_behind : (batch : Batch) (number : ℕ) (left now : Option (List ℕ)) (status : ℕ) (texts : List (List ℕ)) → number ≡ left_out batch.options.skip
    → PassesOver (left_out batch.options.skip) left now true → OfInput now (λ input. AnswersLines batch status texts (numbered number (lines_of input)))
    → OfInput left (Answers batch status texts)
answered_behind batch number left now status texts is (bytes, front, gone) (input, same, answers) = (
  bytes ++ input,
  gone_then_last left now bytes input gone same,
  subst (λ lines. AnswersLines batch status texts (numbered (left_out batch.options.skip) lines)) (sym (front input))
      (subst (λ n. AnswersLines batch status texts (numbered n (lines_of input))) is answers),
)

pub batch_behind : (batch : Batch) (number : ℕ) (left : Option (List ℕ)) (step : Step) (reads : ℕ) (stop : Option BatchStop) → step.number ≡ left_out batch.options.skip
    → PassesOver (left_out batch.options.skip) left step.left true → step.failed_reads ≡ reads → TakesLines batch step stop
    → TakesAnswered batch (whole_step step number left step.written reads step.failed_writes) stop
batch_behind batch number left step reads None is passes r (texts, answers, (written, fails)) =
    (texts, answered_behind batch step.number left step.left 0 texts is passes answers, (written, fails_since step number left step.written reads step.failed_writes 0 0 r refl fails))
batch_behind batch number left step reads (Some ReadFailed) is passes r (texts, answers, (written, fails)) =
    (texts, answered_behind batch step.number left step.left 4 texts is passes answers, (written, fails_since step number left step.written reads step.failed_writes 1 0 r refl fails))
batch_behind batch number left step reads (Some WriteFailed) is passes r (texts, answers, (written, fails)) =
    (texts, answered_behind batch step.number left step.left 4 texts is passes answers, (written, fails_since step number left step.written reads step.failed_writes 0 1 r refl fails))
batch_behind batch number left step reads (Some NoMemory) is passes r (texts, answers, (written, fails)) =
    (texts, answered_behind batch step.number left step.left 3 texts is passes answers, (written, fails_since step number left step.written reads step.failed_writes 0 0 r refl fails))

-- there are no lines but those that are left out
pub batch_of_none : (batch : Batch) (step : Step) → PassesOver (left_out batch.options.skip) step.left step.left_after false → Appends step.written step.written_after []
    → Fails step 0 0 → TakesAnswered batch step None
batch_of_none batch step (input, same, none) grown fails =
    ([], (input, same, ([], [], ap (numbered (left_out batch.options.skip)) none, tt, λ _. refl)), (grown, fails))

-- none of the lines was answered
unanswered : (batch : Batch) (left : Option (List ℕ)) (status : ℕ) → (status ≡ 0 → ⊥) → OfInput left (Answers batch status [])
unanswered batch left status other = of_any left _ (λ input. ([], answered_lines batch input, refl, tt, λ e. absurd (other e)))

-- a line that is left out can't be read
pub batch_unread : (batch : Batch) (step : Step) (fault : InputFault) → Appends step.written step.written_after []
    → step.failed_reads_after ≡ step.failed_reads + failed_reads {T = Bool} (Err fault) → step.failed_writes_after ≡ step.failed_writes
    → TakesAnswered batch step (Some (stop_of fault))
batch_unread batch step input.ReadFailed grown reads writes =
    ([], unanswered batch step.left 4 (λ e. absurd (omega (arith, e))), (grown, (reads, omega (arith, writes))))
batch_unread batch step input.TooLong grown reads writes =
    ([], unanswered batch step.left 3 (λ e. absurd (omega (arith, e))), (grown, (reads, omega (arith, writes))))
batch_unread batch step input.NoMemory grown reads writes =
    ([], unanswered batch step.left 3 (λ e. absurd (omega (arith, e))), (grown, (reads, omega (arith, writes))))

-- ---- the byte order mark

-- the texts are the replies to the first of the lines behind a byte order mark
abbrev pub MarkedAnswers : Batch → ℕ → List (List ℕ) → List ℕ → Type 0
MarkedAnswers batch status texts input = AnswersLines batch status texts (answered_lines batch (without_mark input))

-- the lines of what is left behind the mark are those of the input
marked : (batch : Batch) (status : ℕ) (texts : List (List ℕ)) (before after : Option (List ℕ)) → SkipsMark before after
    → OfInput after (Answers batch status texts) → OfInput before (MarkedAnswers batch status texts)
marked batch status texts None after skips (input, told, answers) = (239 ∷ (187 ∷ (191 ∷ input)), tt, answers)
marked batch status texts (Some xs) after skips (input, told, answers) =
    let same : without_mark xs ≡ input = rw skips at told in
    (xs, refl, subst (Answers batch status texts) (sym same) answers)

-- what is behind the mark was answered
pub behind_mark : (batch : Batch) (number : ℕ) (left : Option (List ℕ)) (step : Step) (reads : ℕ) (stop : Option BatchStop) → SkipsMark left step.left
    → step.failed_reads ≡ reads → TakesAnswered batch step stop → TakesInput batch (whole_step step number left step.written reads step.failed_writes) stop
behind_mark batch number left step reads None skips r (texts, answers, (written, fails)) =
    (texts, marked batch 0 texts left step.left skips answers, (written, fails_since step number left step.written reads step.failed_writes 0 0 r refl fails))
behind_mark batch number left step reads (Some ReadFailed) skips r (texts, answers, (written, fails)) =
    (texts, marked batch 4 texts left step.left skips answers, (written, fails_since step number left step.written reads step.failed_writes 1 0 r refl fails))
behind_mark batch number left step reads (Some WriteFailed) skips r (texts, answers, (written, fails)) =
    (texts, marked batch 4 texts left step.left skips answers, (written, fails_since step number left step.written reads step.failed_writes 0 1 r refl fails))
behind_mark batch number left step reads (Some NoMemory) skips r (texts, answers, (written, fails)) =
    (texts, marked batch 3 texts left step.left skips answers, (written, fails_since step number left step.written reads step.failed_writes 0 0 r refl fails))

-- of no bytes no line is answered
pub empty_input : (batch : Batch) (step : Step) → IfSome step.left (λ xs. xs ≡ []) → Appends step.written step.written_after [] → Fails step 0 0
    → TakesInput batch step None
empty_input batch step none grown fails =
    ([], ([], none, ([], [], ap (numbered (left_out batch.options.skip)) (none_dropped (left_out batch.options.skip)), tt, λ _. refl)), (grown, fails))
  where
    none_dropped : (n : ℕ) → drop n (lines_of []) ≡ []
    none_dropped zero = refl
    none_dropped (suc n) = refl

-- the beginning of the input can't be read
pub mark_unread : (batch : Batch) (step : Step) → Appends step.written step.written_after [] → step.failed_reads_after ≡ step.failed_reads + 1
    → step.failed_writes_after ≡ step.failed_writes → TakesInput batch step (Some ReadFailed)
mark_unread batch step grown reads writes = (
  [],
  of_any step.left _ (λ input. ([], answered_lines batch (without_mark input), refl, tt, λ e. absurd (omega (arith, e)))),
  (grown, (reads, omega (arith, writes))),
)

-- ---- a run

-- of a batch in which nothing was read, all of the input is left
pub fresh_left : (u : Unread) (known : Option (List ℕ)) → u.from ≡ 0 → u.to ≡ 0 → left_of u known ≡ known
fresh_left u None from to = refl
fresh_left u (Some xs) from to = let none : u.to - u.from ≡ 0 = omega (arith, from, to) in ap (λ k. Some (take k (drop u.from u.chunk) ++ xs)) none

-- the limits are searched, and lines were answered
pub batch_ran : (opened batch : Batch) (run : Run) (left : Option (List ℕ)) (texts : List (List ℕ)) → fault_of opened.limits ≡ None
    → opened ≡ batch → left ≡ run.input → OfInput left (MarkedAnswers opened run.ending.status texts) → EndsBatch batch.options.json run (joined texts) → RunsBatch batch run
batch_ran opened batch run left texts searched same_batch same answers ends =
    let none : fault_of batch.limits ≡ None = subst (λ b. fault_of b.limits ≡ None) same_batch searched in
    rw none (
      texts,
      subst (λ o. OfInput o (MarkedAnswers batch run.ending.status texts)) same
          (subst (λ b. OfInput left (MarkedAnswers b run.ending.status texts)) same_batch answers),
      ends,
    )

-- the limits are refused, or memory is wanting before anything is read
pub batch_refused : (batch : Batch) (run : Run) (why : Refusal) → run.failed_reads ≡ 0 → IsRefusedWithin batch.limits why
    → RefusesBatch batch.options.json run.ending why → (why ≡ refusal.NoMemory → Finishes run.ending (wanting_text batch.options.json) 3) → RunsBatch batch run
batch_refused batch run why unread is refuses memory = elim (refused_by batch.limits why is) [
  | inl (none, wants) ↦ wanting none (memory wants)
  | inr (fault, at, same) ↦ rw at (unread, subst (RefusesBatch batch.options.json run.ending) same refuses)
]
  where
    wanting : fault_of batch.limits ≡ None → Finishes run.ending (wanting_text batch.options.json) 3 → RunsBatch batch run
    wanting none wrote = rw none ([], of_any run.input _ (λ input. ([], answered_lines batch (without_mark input), refl, tt, λ e. elim wrote [ inl w ↦ absurd (omega (arith, w.2, e)) | inr w ↦ absurd (omega (arith, w.2, e)) ])), inr (inr (unread, wrote)))

-- want of memory isn't the end of the input
pub gave_up : (ending : Ending) (text : List ℕ) → Finishes ending text 3 → ending.status ≡ 0 → ⊥
gave_up ending text (inl whole) none = absurd (omega (arith, whole.2, none))
gave_up ending text (inr cut) none = absurd (omega (arith, cut.2, none))

-- where lines may be left, the status plays no part
pub answers_with : (batch : Batch) (m status : ℕ) (left : Option (List ℕ)) (texts : List (List ℕ)) → (status ≡ 0 → ⊥)
    → OfInput left (MarkedAnswers batch m texts) → OfInput left (MarkedAnswers batch status texts)
answers_with batch m status left texts other answers = of_input_then left _ _ answers (λ xs a.
    let (front, rest, split, zip, end) = a in (front, rest, split, zip, λ e. absurd (other e)))

-- ---- an answer
