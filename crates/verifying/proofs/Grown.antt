-- What a line makes of the claims: they grow, no two of them are about one position, if no two were, what held still holds, and so does what it shows.
use Rattle.std.proofs.Common.{◌≡◌, ℕ, ◌-◌, ◌∷◌, refl, inl, inr, List, [], ◌++◌, sym, ◌∙◌, ap, subst, append_assoc, arith, Contains, ◌+◌, ◌*◌, ◌%◌, Bool, true, false, nat_lt, if◌then◌else◌, min, All, ◌⊎◌}
use Rattle.verifying.proofs.Common.{append-nil, Contains-append_left, Contains-push, Contains-push_cases, PlainBoard, Goal, Ply, Claim, ClaimsSoMany, ClaimsSoFew, EscapesBy, FailsBy, HoldsOver, MetBy, WinsBy, IsWon, Answer, Part, First, Win, Yes, Lesser, No, Word, Seen, Claimed, Stalemated, AreApart, IsLineOf, ReadsLine, begun_claims, NoneAbout, TellInTurn, Meets, MeetsReply, IsYesLine, IsNoLine, Resists, TellsFailure, FailsBecause, ShowFailures, with_claim, shorter_claim, forced_within, not_reached, ForcesNothing, one_after, IsReached, IsLawful, IsMove, All-cons, All-contains, All-nil, All-weaker, ReachesNothing}
use Rattle.verifying.specs.declared.words.Word.TheVariants.{Place}
use Rattle.problems.specs.declared.answer.Answer.TheVariants as answer

-- the new list has the old one's claims, and perhaps more behind them
abbrev pub Extends : List Claim → List Claim → Type 0
Extends old new = (more : List Claim) × (new ≡ old ++ more)

pub extends_twice : (xs ys zs : List Claim) → Extends xs ys → Extends ys zs → Extends xs zs
extends_twice xs ys zs (more, is) (others, next) = (more ++ others, next ∙ ap (λ (l : List Claim). l ++ others) is ∙ append_assoc xs more others)

pub extends_same : (old new : List Claim) → new ≡ old → Extends old new
extends_same old new same = ([], same ∙ sym (append-nil old))

-- the claim that was added
pub added_there : (old new : List Claim) (p : PlainBoard) (n : ℕ) → new ≡ with_claim old p n → Contains new (record { position = p; plies = n })
added_there old new p n is = subst (λ (l : List Claim). Contains l (record { position = p; plies = n })) (sym is) (Contains-push old (record { position = p; plies = n }))

module _ (old new : List Claim) (grown : Extends old new) where
  pub still_there : (c : Claim) → Contains old c → Contains new c
  still_there c among = subst (λ (l : List Claim). Contains l c) (sym grown.1) (Contains-append_left old grown.0 c among)

  pub still_many : (p : PlainBoard) (n : ℕ) → ClaimsSoMany old p n → ClaimsSoMany new p n
  still_many p n (c, among, about, many) = (c, still_there c among, about, many)

  pub still_few : (p : PlainBoard) (n : ℕ) → ClaimsSoFew old p n → ClaimsSoFew new p n
  still_few p n (c, among, about, few) = (c, still_there c among, about, few)

  still_escapes : (goal : Goal) (q : PlainBoard) (n : ℕ) → EscapesBy goal old q n → EscapesBy goal new q n
  still_escapes goal q n (r, p, reply, inl nothing) = (r, p, reply, inl nothing)
  still_escapes goal q n (r, p, reply, inr claimed) = (r, p, reply, inr (still_many p n claimed))

  pub still_fails : (goal : Goal) (b : PlainBoard) (n : ℕ) (m : Ply) → FailsBy goal old b n m → FailsBy goal new b n m
  still_fails goal b n m fails q move = let f = fails q move in (
    f.0,
    elim f.1 [
      | inl one ↦ inl one
      | inr (inl stuck) ↦ inr (inl stuck)
      | inr (inr escape) ↦ inr (inr (still_escapes goal q (n - 2) escape))
    ],
  )

  pub still_holds : (goal : Goal) (c : Claim) → HoldsOver goal old c → HoldsOver goal new c
  still_holds goal c holds m = still_fails goal c.position c.plies m (holds m)

  pub still_met : (goal : Goal) (p : PlainBoard) (n : ℕ) → MetBy goal old p n → MetBy goal new p n
  still_met goal p n (inl forced) = inl forced
  still_met goal p n (inr claimed) = inr (still_few p n claimed)

  pub still_wins : (goal : Goal) (b : PlainBoard) (n : ℕ) (m : Ply) → WinsBy goal old b n m → WinsBy goal new b n m
  still_wins goal b n m (some, q, move, inl there) = (some, q, move, inl there)
  still_wins goal b n m (some, q, move, inr (reply, met)) = (some, q, move, inr (reply, λ r p next. still_met goal p (n - 2) (met r p next)))

  pub still_won : (goal : Goal) (c : Claim) → IsWon goal old c → IsWon goal new c
  still_won goal c (m, wins) = (m, still_wins goal c.position c.plies m wins)

-- ---- what a line makes

pub none_apart : AreApart []
none_apart p j k (i, lt, here) also = absurd (omega (arith, lt))

more_apart : (claims : List Claim) (p : PlainBoard) (n : ℕ) → AreApart claims → NoneAbout claims p → AreApart (with_claim claims p n)
more_apart claims p n apart none b j k one other =
    let added : Claim = record { position = p; plies = n } in
    elim (Contains-push_cases claims added (record { position = b; plies = j }) one) as (λ _. j ≡ k) [
      | inl among ↦ elim (Contains-push_cases claims added (record { position = b; plies = k }) other) as (λ _. j ≡ k) [
        | inl among_too ↦ apart b j k among among_too
        | inr new ↦ absurd (none (record { position = b; plies = j }) among (sym (ap (λ (x : Claim). x.position) new)))
      ]
      | inr new ↦ elim (Contains-push_cases claims added (record { position = b; plies = k }) other) as (λ _. j ≡ k) [
        | inl among ↦ absurd (none (record { position = b; plies = k }) among (sym (ap (λ (x : Claim). x.position) new)))
        | inr new_too ↦ sym (ap (λ (x : Claim). x.plies) new) ∙ ap (λ (x : Claim). x.plies) new_too
      ]
    ]

pub one_apart : (p : PlainBoard) (n : ℕ) → AreApart (with_claim [] p n)
one_apart p n = more_apart [] p n none_apart (λ c among about. absurd (omega (arith, among.1)))

pub shorter_apart : (b : PlainBoard) (n : ℕ) → AreApart (shorter_claim b n)
shorter_apart b n = either (nat_lt 2 n)
  where
    either : (more : Bool) → AreApart (if more then with_claim [] b (n - 2) else [])
    either true = one_apart b (n - 2)
    either false = none_apart

abbrev pub Grows : List Claim → List Claim → Type 0
Grows old new = Extends old new × (AreApart old → AreApart new)

same_grows : (old new : List Claim) → new ≡ old → Grows old new
same_grows old new is = (extends_same old new is, subst AreApart (sym is))

more_grows : (old new : List Claim) (p : PlainBoard) (n : ℕ) → NoneAbout old p → new ≡ with_claim old p n → Grows old new
more_grows old new p n none is = ((record { position = p; plies = n } ∷ [], is), λ apart. subst AreApart (sym is) (more_apart old p n apart none))

-- what the words tell of their moves is so over the claims at the end
told_all : (Tells : Ply → Word → List Claim → List Claim → Type 0) (Good : List Claim → Ply → Type 0) → ((m : Ply) (word : Word) (old new : List Claim) → Tells m word old new → Grows old new × Good new m) → ((old new : List Claim) → Extends old new → (m : Ply) → Good old m → Good new m)
    → (moves : List Ply) (words : List Word) (old new : List Claim) → TellInTurn Tells moves words old new → Grows old new × All (Good new) moves
told_all Tells Good so still [] [] old new told = (same_grows old new told, All-nil (Good new))
told_all Tells Good so still [] (word ∷ words) old new told = absurd told
told_all Tells Good so still (m ∷ moves) [] old new told = absurd told
told_all Tells Good so still (m ∷ moves) (word ∷ words) old new (next, first, rest) =
    let here = so m word old next first in
    let later = told_all Tells Good so still moves words next new rest in
    ((extends_twice old next new here.0.0 later.0.0, λ apart. later.0.1 (here.0.1 apart)), All-cons (Good new) m moves (still next new later.0.0 m here.1) later.1)

module _ (goal : Goal) where
  -- ---- yes claims

  meeting : (p : PlainBoard) (n : ℕ) (word : Word) (old new : List Claim) → Meets goal p n word old new → Grows old new × MetBy goal new p n
  meeting p n Seen old new (f, is) = (same_grows old new is, inl (forced_within goal p.mover p (min n 3) n (omega arith) f))
  meeting p n Claimed old new (few, is) = (same_grows old new is, inr (subst (λ (l : List Claim). ClaimsSoFew l p n) (sym is) few))
  meeting p n (Place k) old new (none, few, is) = (more_grows old new p (2 * k + 1) none is, inr (record { position = p; plies = 2 * k + 1 }, added_there old new p (2 * k + 1) is, refl, few))
  meeting p n Stalemated old new f = absurd f

  -- the reply is met within n plies
  abbrev IsReplyMet : PlainBoard → ℕ → List Claim → Ply → Type 0
  IsReplyMet q n claims r = (p : PlainBoard) → IsMove q r p → MetBy goal claims p n

  pub reply_met : (q : PlainBoard) (n : ℕ) (r : Ply) (word : Word) (old new : List Claim) → MeetsReply goal q n r word old new → Grows old new × IsReplyMet q n new r
  reply_met q n r word old new (p, move, meets) =
      let so = meeting p n word old new meets in
      (so.0, λ x also. subst (λ (b : PlainBoard). MetBy goal new b n) (one_after q r p x move also) so.1)

  pub yes_line : (c : Claim) (m : Ply) (line : List Word) (old new : List Claim) → IsYesLine goal c m line old new → Grows old new × WinsBy goal new c.position c.plies m
  yes_line c m line old new (place, words, is, at, some, q, move, inl (stuck, there, none, same)) = (same_grows old new same, (some, q, move, inl there))
  yes_line c m line old new (place, words, is, at, some, q, move, inr (reply, enough, (replies, lists, told))) =
      let so = told_all (MeetsReply goal q (c.plies - 2)) (IsReplyMet q (c.plies - 2)) (reply_met q (c.plies - 2)) (λ xs ys grown r met p next. still_met xs ys grown goal p (c.plies - 2) (met p next)) replies words old new told in
      (so.0, (some, q, move, inr (reply, λ r p next. All-contains (IsReplyMet q (c.plies - 2) new) replies r so.1 ((lists.exact r).1 (p, next)) p next)))

  -- ---- no claims

  resisting : (p : PlainBoard) (n : ℕ) (old new : List Claim) → Resists goal p n old new → Grows old new × (ForcesNothing goal p n ⊎ ClaimsSoMany new p n)
  resisting p n old new (inl (small, nothing, is)) = (same_grows old new is, inl nothing)
  resisting p n old new (inr (large, inl (many, is))) = (same_grows old new is, inr (subst (λ (l : List Claim). ClaimsSoMany l p n) (sym is) many))
  resisting p n old new (inr (large, inr (none, is))) = (more_grows old new p n none is, inr (record { position = p; plies = n }, added_there old new p n is, refl, omega arith))

  failing : (q : PlainBoard) (n : ℕ) (word : Word) (old new : List Claim) → TellsFailure goal q n word old new → Grows old new × (IsReached goal q → ⊥) × (((r : Ply) → IsLawful q r → ⊥) ⊎ EscapesBy goal new q n)
  failing q n Seen old new f = absurd f
  failing q n Claimed old new f = absurd f
  failing q n Stalemated old new (stuck, out, is) = (same_grows old new is, out, inl stuck)
  failing q n (Place k) old new (r, p, at, move, resists) =
      let so = resisting p n old new resists in
      (so.0, not_reached goal q r (p, move), inr (r, p, move, so.1))

  pub reason_fails : (b : PlainBoard) (n : ℕ) (m : Ply) (word : Word) (old new : List Claim) → FailsBecause goal b n m word old new → Grows old new × FailsBy goal new b n m
  reason_fails b n m word old new (q, move, fails) =
      let so = failing q (n - 2) word old new fails in (
        so.0,
        λ x also. subst (λ (y : PlainBoard). (IsReached goal y → ⊥) × ((n ≡ 1) ⊎ ((r : Ply) → IsLawful y r → ⊥) ⊎ EscapesBy goal new y (n - 2))) (one_after b m q x move also)
            (so.1, elim so.2 [ inl stuck ↦ inr (inl stuck) | inr escapes ↦ inr (inr escapes) ]),
      )

  pub all_failed : (b : PlainBoard) (n : ℕ) (moves : List Ply) (words : List Word) (old new : List Claim) → ShowFailures goal b n moves words old new → Grows old new × All (FailsBy goal new b n) moves
  all_failed b n moves words old new (inl (one, none, nothing, is)) =
      (same_grows old new is, All-weaker (ReachesNothing goal b) (FailsBy goal new b n) (λ m out q move. (out q move, inl one)) moves nothing)
  all_failed b n moves words old new (inr (two, told)) =
      told_all (FailsBecause goal b n) (λ claims m. FailsBy goal claims b n m) (reason_fails b n) (λ xs ys grown m fails. still_fails xs ys grown goal b n m fails) moves words old new told

  pub no_line : (c : Claim) (line : List Word) (old new : List Claim) → IsNoLine goal c line old new → Grows old new × HoldsOver goal new c
  no_line c line old new (moves, lists, show) =
      let so = all_failed c.position c.plies moves line old new show in
      (so.0, λ m q move. All-contains (FailsBy goal new c.position c.plies) moves m so.1 ((lists.exact m).1 (q, move)) q move)

-- ---- lines

line_apart : (goal : Goal) (b : PlainBoard) (part : Part) (words : List Word) (old new : List Claim) → IsLineOf goal b part words old new → AreApart old → AreApart new
line_apart goal b First words old new line apart = absurd line
line_apart goal b (Win mate) words old new line apart = (yes_line goal (record { position = b; plies = mate.plies }) mate.first words (with_claim [] b mate.plies) new line).0.1 (one_apart b mate.plies)
line_apart goal b (Yes mate place) words old new (c, at, (m, line)) apart = (yes_line goal c m words old new line).0.1 apart
line_apart goal b (Lesser mate) words old new (lesser, others, lists, show) apart = (all_failed goal b mate.plies lesser words (shorter_claim b mate.plies) new show).0.1 (shorter_apart b mate.plies)
line_apart goal b (No told place) words old new (c, at, line) apart = (no_line goal c words old new line).0.1 apart

begun_apart : (b : PlainBoard) (answer : Answer) → AreApart (begun_claims b answer)
begun_apart b (answer.Mate n first) = none_apart
begun_apart b (answer.NoneWithin limit) = one_apart b (limit - 1 + limit % 2)

pub reads_apart : (goal : Goal) (b : PlainBoard) (part next : Part) (line : List ℕ) (old new : List Claim) → ReadsLine goal b part line old next new → AreApart old → AreApart new
reads_apart goal b part next line old new (inl (first, (told, range, named, spelled, is, made))) apart = subst AreApart (sym made) (begun_apart b told)
reads_apart goal b part next line old new (inr (words, spelled, short, (line_is, is))) apart = line_apart goal b part words old new line_is apart
