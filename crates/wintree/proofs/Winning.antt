-- Laws of winning plans, and of flaws.
use Rattle.std.proofs.Common.{◌≡◌, ◌↔◌, ℕ, Result, Ok, Err, IfOk, IfErr, SomeIff, IsNone, ◌<◌, List, [], ◌∷◌, length, refl, sym, ap, subst, inl, inr, arith, slice_get, Some, Contains, IfSome, ◌≢◌}
use Rattle.std.specs.Result.{result_err, result_ok}
use Rattle.wintree.proofs.Common.{true≢false, height, PlainBoard, Ply, IsMove, ListsLawful, Goal, one_after, End, Plan, ends, splits, Replies, last, more, replies_of, plan_of, Wins, EachWins, EndsAt, moves_of, WinsAfter, AllWin, moves_in, IsFlaw, IsFlawBelow, IsWrong, IsWrongEnd, AreWrong, listed}
use Rattle.wintree.specs.declared.flaws.Flaw.{Flaw}
use Rattle.wintree.specs.declared.flaws.Wrong.{Wrong}
use Rattle.wintree.specs.declared.flaws.Wrong.TheVariants.{Unlawful, NotMate, NotStale, LeftOut, UnlawfulReply, OutOfPlace}
use Rattle.rules.specs.declared.goal.Goal.TheVariants as goals
use Rattle.wintree.specs.declared.tree.End.TheVariants as ending
use Rattle.wintree.proofs.Listings.{among_more, one_list}

moves-replies_of : (first : Ply × Plan) (others : List (Ply × Plan)) → moves_of (replies_of first others) ≡ moves_in (first ∷ others)
moves-replies_of first [] = refl
moves-replies_of first (next ∷ others) = ap (λ ms. first.0 ∷ ms) (moves-replies_of next others)

listed-replies_of : (first : Ply × Plan) (others : List (Ply × Plan)) → listed (replies_of first others) ≡ first ∷ others
listed-replies_of first [] = refl
listed-replies_of first (next ∷ others) = ap (λ rs. first ∷ rs) (listed-replies_of next others)

each_wins : (goal : Goal) (q : PlainBoard) (first : Ply × Plan) (others : List (Ply × Plan)) → AllWin goal q (first ∷ others) → EachWins goal q (replies_of first others)
each_wins goal q first [] w = w.0
each_wins goal q first (next ∷ others) w = (w.0, each_wins goal q next others w.1)

module _ (goal : Goal) (b q : PlainBoard) (m : Ply) (move : IsMove b m q) where
  -- a list of lawful replies wins where each of them does
  pub wins_plan_of : (replies : List (Ply × Plan)) → 0 < length replies → ListsLawful q (moves_in replies) → AllWin goal q replies → Wins goal b (plan_of m replies)
  wins_plan_of [] some lists w = absurd (omega arith)
  wins_plan_of (first ∷ others) some lists w = (q, move, subst (ListsLawful q) (sym (moves-replies_of first others)) lists, each_wins goal q first others w)

  pub wrong_ends : (end : End) (wrong : Wrong) → IsWrongEnd goal q end wrong → IsWrong goal b (ends m end) wrong
  wrong_ends ending.Mate Unlawful f = absurd f
  wrong_ends ending.Stale Unlawful f = absurd f
  wrong_ends end _ f = (q, move, f)

  wrong_splits : (replies : Replies) (wrong : Wrong) → AreWrong q (moves_of replies) wrong → IsWrong goal b (splits m replies) wrong
  wrong_splits replies Unlawful f = absurd f
  wrong_splits replies _ f = (q, move, f)

  -- a flaw below is one of the plan
  pub flaw_plan_of : (replies : List (Ply × Plan)) (line : List Ply) (wrong : Wrong) → 0 < length replies → IsFlawBelow goal q replies line wrong → IsFlaw goal b (plan_of m replies) (m ∷ line) wrong
  flaw_plan_of [] line wrong some f = absurd (omega arith)
  flaw_plan_of (first ∷ others) [] wrong some f =
      (refl, wrong_splits (replies_of first others) wrong (subst (λ ms. AreWrong q ms wrong) (sym (moves-replies_of first others)) f))
  flaw_plan_of (first ∷ others) (r ∷ line) wrong some f =
      (refl, q, move, f.0, subst (λ rs. Contains rs (r, f.0)) (sym (listed-replies_of first others)) f.1, f.2, f.3, f.4)

-- ---- a plan with a flaw doesn't win

no_end : (goal : Goal) (q : PlainBoard) (end : End) (wrong : Wrong) → IsWrongEnd goal q end wrong → EndsAt goal q end → ⊥
no_end goal q ending.Mate NotMate f e = f e
no_end goals.MateOrStale q ending.Stale NotStale f e = f e
no_end goals.Mate q ending.Stale _ f e = e
no_end _ q _ _ f e = absurd f

no_list : (q : PlainBoard) (replies : List Ply) (wrong : Wrong) → AreWrong q replies wrong → ListsLawful q replies → ⊥
no_list q replies (LeftOut r) f lists = f.1 ((lists.exact r).1 f.0)
no_list q replies (UnlawfulReply r) f lists = f.1 ((lists.exact r).0 f.0)
no_list q replies (OutOfPlace r) f lists =
    let here = subst (λ ms. slice_get ms f.1 ≡ Some r) (one_list q replies f.0 lists f.2) f.4 in
    let due = subst (λ o. IfSome o (λ due. (due ≢ r) × Contains replies due)) here f.5 in due.0 refl
no_list q replies _ f lists = absurd f

no_win : (goal : Goal) (b : PlainBoard) (plan : Plan) (wrong : Wrong) → IsWrong goal b plan wrong → Wins goal b plan → ⊥
no_win goal b (ends m end) Unlawful f w = f (w.0, w.1)
no_win goal b (splits m replies) Unlawful f w = f (w.0, w.1)
no_win goal b (ends m end) wrong f w = no_end goal f.0 end wrong f.2 (subst (λ p. EndsAt goal p end) (one_after b m w.0 f.0 w.1 f.1) w.2)
no_win goal b (splits m replies) wrong f w = no_list f.0 (moves_of replies) wrong f.2 (subst (λ p. ListsLawful p (moves_of replies)) (one_after b m w.0 f.0 w.1 f.1) w.2)

-- behind a reply its plan wins
wins_behind : (goal : Goal) (q : PlainBoard) (replies : Replies) (r : Ply) (below : Plan) → EachWins goal q replies → Contains (listed replies) (r, below) → WinsAfter goal q r below
wins_behind goal q (last s plan) r below w among =
    elim (among_more (s, plan) [] (r, below) among) as (λ _. WinsAfter goal q r below) [
      | inl e ↦ subst (λ x. WinsAfter goal q x.0 x.1) e w
      | inr none ↦ absurd (omega (arith, none.1))
    ]
wins_behind goal q (more s plan replies) r below w among =
    elim (among_more (s, plan) (listed replies) (r, below) among) as (λ _. WinsAfter goal q r below) [
      | inl e ↦ subst (λ x. WinsAfter goal q x.0 x.1) e w.0
      | inr later ↦ wins_behind goal q replies r below w.1 later
    ]

pub flaw_loses : (goal : Goal) (b : PlainBoard) (plan : Plan) (line : List Ply) (wrong : Wrong) → IsFlaw goal b plan line wrong → Wins goal b plan → ⊥
flaw_loses goal b plan [] wrong f w = absurd f
flaw_loses goal b plan (m ∷ []) wrong f w = no_win goal b plan wrong f.1 w
flaw_loses goal b (ends n end) (m ∷ r ∷ line) wrong f w = let none = f.4 in absurd (omega (arith, none.1))
flaw_loses goal b (splits n replies) (m ∷ r ∷ line) wrong f w =
    let each = subst (λ p. EachWins goal p replies) (one_after b n w.0 f.1 w.1 (subst (λ x. IsMove b x f.1) f.0 f.2)) w.3 in
    let behind = wins_behind goal f.1 replies r f.3 each f.4 in
    flaw_loses goal f.5 f.3 line wrong f.7 (subst (λ p. Wins goal p f.3) (one_after f.1 r behind.0 f.5 behind.1 f.6) behind.2)

-- what the checker found tells whether the plan wins
pub verdict : (goal : Goal) (b : PlainBoard) (plan : Plan) (found : Result ℕ Flaw) → IfOk found (λ plies. Wins goal b plan × (plies ≡ height plan)) → IfErr found (λ flaw. IsFlaw goal b plan flaw.line.items flaw.wrong)
    → SomeIff (result_ok found) (Wins goal b plan) (height plan) × (IsNone (result_err found) ↔ Wins goal b plan)
verdict goal b plan (Ok plies) won flawed = (won, (λ _. won.0, λ _. refl))
verdict goal b plan (Err flaw) won flawed =
    let loses = flaw_loses goal b plan flaw.line.items flaw.wrong flawed in (loses, (λ no. absurd (true≢false no), λ wins. absurd (loses wins)))
