use Rattle.std.proofs.Common.{◌≡◌, ◌≤◌, ◌+◌, ◌∙◌, ℕ, List, Bool, Some, None, true, false, length, ap, arith, refl, sym, subst, if◌then◌else◌}
use Rattle.verifying.proofs.Common.{slice_get_within, PlainBoard, Goal, Claim, Part, Word, IsNoLine, IsSomeYesLine, IsLineAt, IsLineOf, ReadsWords, behind_yes, part_behind, FindsOnly, YieldsOnly}
use Rattle.verifying.proofs.Making.{finds_behind, yields_none}
use Rattle.verifying.proofs.checker.shown.Goals as goal

-- what comes behind a line of this part, if the words show one
behind : (goal : Goal) (b : PlainBoard) (part this : Part) (words : List Word) (old new : List Claim) → part ≡ this → (shows is_line : Bool) (next : Part) → shows ≡ is_line → YieldsOnly (IsLineOf goal b this words old) shows new → next ≡ part_behind this (length new)
    → FindsOnly (λ (next : Part) (more : List Claim). ReadsWords goal b part words old next more) (if is_line then Some next else None) new
behind goal b part this words old new is shows is_line next so h comes =
    subst (λ (p : Part). FindsOnly (λ (next : Part) (more : List Claim). ReadsWords goal b p words old next more) (if is_line then Some next else None) new) (sym is)
    (finds_behind (IsLineOf goal b this words old) (λ (more : List Claim). part_behind this (length more)) next is_line new (subst (λ t. YieldsOnly (IsLineOf goal b this words old) t new) so h) comes)

-- no claim is at the place
past_end : (IsLine : Claim → List Word → List Claim → List Claim → Type 0) (place : ℕ) (words : List Word) (old : List Claim) → length old ≤ place → YieldsOnly (IsLineAt IsLine place words old) false old
past_end IsLine place words old past = yields_none (IsLineAt IsLine place words old) old (λ other line. let within = slice_get_within old place line.0 line.1 in omega (arith, within, past))

pub returns-else-not-branch : goal.returns-else-not-branch
returns-else-not-branch g c = behind c.args.goal c.args.board.now c.args.part _ c.args.words.now c.args.claims.now c.shows_win.new.claims c.in-Win.is _ true c.behind_yes.result c.if-not-branch.false c.in_ok-shows_win-in-Win.ensures
    (c.behind_yes.ensures ∙ ap (λ (n : ℕ). behind_yes c.in-Win.mate 1 n) c.len.ensures)

pub returns-then-not-branch : goal.returns-then-not-branch
returns-then-not-branch g c = behind c.args.goal c.args.board.now c.args.part _ c.args.words.now c.args.claims.now c.shows_win.new.claims c.in-Win.is _ false _ c.if-not-branch.true c.in_ok-shows_win-in-Win.ensures refl

pub returns-then-place-len : goal.returns-then-place-len
returns-then-place-len g c = behind c.args.goal c.args.board.now c.args.part _ c.args.words.now c.args.claims.now c.args.claims.now c.in-Yes.is false false _ refl (past_end (IsSomeYesLine c.args.goal) c.in-Yes.place c.args.words.now c.args.claims.now (omega (arith, c.if-place-len.true, c.len-in-Yes.ensures))) refl

pub returns-then-not-branch-2 : goal.returns-then-not-branch-2
returns-then-not-branch-2 g c = behind c.args.goal c.args.board.now c.args.part _ c.args.words.now c.args.claims.now c.shows_yes.new.claims c.in-Yes.is _ false _ c.if-not-branch-2.true c.in_ok-shows_yes-in-Yes.ensures refl

pub returns-else-not-branch-2 : goal.returns-else-not-branch-2
returns-else-not-branch-2 g c = behind c.args.goal c.args.board.now c.args.part _ c.args.words.now c.args.claims.now c.shows_yes.new.claims c.in-Yes.is _ true _ c.if-not-branch-2.false c.in_ok-shows_yes-in-Yes.ensures
    (c.behind_yes-in-Yes.ensures ∙ ap (λ (n : ℕ). behind_yes c.in-Yes.mate (c.in-Yes.place + 1) n) c.len-in-Yes-2.ensures)

pub returns-then-not-branch-3 : goal.returns-then-not-branch-3
returns-then-not-branch-3 g c = behind c.args.goal c.args.board.now c.args.part _ c.args.words.now c.args.claims.now c.shows_lesser.new.claims c.in-Lesser.is _ false _ c.if-not-branch-3.true c.in_ok-shows_lesser-in-Lesser.ensures refl

pub returns-else-not-branch-3 : goal.returns-else-not-branch-3
returns-else-not-branch-3 g c = behind c.args.goal c.args.board.now c.args.part _ c.args.words.now c.args.claims.now c.shows_lesser.new.claims c.in-Lesser.is _ true _ c.if-not-branch-3.false c.in_ok-shows_lesser-in-Lesser.ensures refl

pub returns-then-place-len-2 : goal.returns-then-place-len-2
returns-then-place-len-2 g c = behind c.args.goal c.args.board.now c.args.part _ c.args.words.now c.args.claims.now c.args.claims.now c.in-No.is false false _ refl (past_end (IsNoLine c.args.goal) c.in-No.place c.args.words.now c.args.claims.now (omega (arith, c.if-place-len-2.true, c.len-in-No.ensures))) refl

pub returns-then-not-branch-4 : goal.returns-then-not-branch-4
returns-then-not-branch-4 g c = behind c.args.goal c.args.board.now c.args.part _ c.args.words.now c.args.claims.now c.shows_no.new.claims c.in-No.is _ false _ c.if-not-branch-4.true c.in_ok-shows_no-in-No.ensures refl

pub returns-else-not-branch-4 : goal.returns-else-not-branch-4
returns-else-not-branch-4 g c = behind c.args.goal c.args.board.now c.args.part _ c.args.words.now c.args.claims.now c.shows_no.new.claims c.in-No.is _ true _ c.if-not-branch-4.false c.in_ok-shows_no-in-No.ensures refl
