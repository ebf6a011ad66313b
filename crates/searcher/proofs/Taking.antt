-- How many plies a move takes.
use Rattle.std.proofs.Common.{◌≡◌, ℕ, zero, suc, ◌+◌, ◌-◌, ◌*◌, ◌<◌, ◌≤◌, ◌⊎◌, inl, inr, refl, sym, subst, ◌∙◌, arith, false, List, [], ◌∷◌, ◌++◌, length, take, get_or, slice_get, Some}
use Rattle.std.proofs.lemmas.List.{take_all}
use Rattle.std.proofs.lemmas.Option.{slice_get_read}
use Rattle.board.specs.declared.game.Side.{Side}
use Rattle.board.specs.Games.{is_same_side}
use Rattle.board.specs.Board.{PlainBoard}
use Rattle.rules.specs.declared.goal.Goal.{Goal}
use Rattle.rules.specs.Squares.{Ply}
use Rattle.rules.specs.Order.{IsPlyBefore}
use Rattle.rules.specs.Forces.{IsReached, Forces}
use Rattle.rules.proofs.Forcing.{to_other, turn-own, turn-other, same_side-self, twice, twice-double, Forces-even}
use Rattle.problems.specs.Answer.{Wins}
use Rattle.problems.specs.declared.root.Root.{Root}
use Rattle.problems.specs.declared.key.Key.{Key}
use Rattle.problems.specs.Roots.{IsRoot, WinsIn, TakesIn}
use Rattle.problems.specs.Keys.{Takes, ListsKeys}
use Rattle.moves.proofs.Picking.{InOrder, Picks, keep, skip}
use Rattle.problems.proofs.Jobs.{same_some}
use Rattle.board.proofs.RankText.{on_true as on_own, on_false as on_other}

-- with the defender to move, 2 r + 1 plies are no better than 2 r
last_ply : (r : ℕ) (goal : Goal) (side : Side) (q : PlainBoard) → is_same_side side q.mover ≡ false → Forces goal side q (suc (twice r)) → Forces goal side q (twice r)
last_ply zero goal side q other f = to_other _ ⊥ (IsReached goal q) other
    (elim (on_other _ _ _ other f) [
      | inl there ↦ there
      | inr w ↦ absurd (on_own _ ⊥ (IsReached goal w.0.1.0) (turn-other side q w.0.0 w.0.1.0 w.0.1.1 other) (w.1 w.0.0 w.0.1.0 w.0.1.1))
    ])
last_ply (suc r) goal side q other f = to_other _ _ _ other
    (elim (on_other _ _ _ other f) [
      | inl there ↦ inl there
      | inr w ↦ inr (w.0, λ m p move. Forces-even r goal side p (turn-other side q m p move other) (w.1 m p move))
    ])

-- so a move that wins within 2 r + 2 plies wins within 2 r + 1
even_wins : (goal : Goal) (b : PlainBoard) (r k n : ℕ) (m : Ply) → k ≡ 2 * r + 2 → n ≡ 2 * r + 1 → Wins goal b k m → Wins goal b n m
even_wins goal b r k n m even odd w =
    let from : k - 1 ≡ suc (twice r) = (let e = twice-double r in omega arith) in
    let to : twice r ≡ n - 1 = (let e = twice-double r in omega arith) in (
      w.0,
      w.1,
      subst (Forces goal b.mover w.0) to
          (last_ply r goal b.mover w.0 (turn-own b.mover b m w.0 w.1 (same_side-self b.mover)) (subst (Forces goal b.mover w.0) from w.2)),
    )

module _ (r : Root) (job : ℕ) where
  split : (n k : ℕ) → k ≤ 2 * n + 2 → (k ≤ 2 * n) ⊎ ((k ≡ 2 * n + 1) ⊎ (k ≡ 2 * n + 2))
  split n k h = grind arith

  -- one round more in vain
  pub none_more : (n : ℕ) → ((k : ℕ) → 0 < k → k ≤ 2 * n → WinsIn r k job → ⊥) → (WinsIn r (2 * n + 1) job → ⊥) → (k : ℕ) → 0 < k → k ≤ 2 * (n + 1) → WinsIn r k job → ⊥
  none_more n before now k some h w = elim (split n k (omega (arith, h))) [
    | inl small ↦ before k some small w
    | inr (inl odd) ↦ now (subst (λ i. WinsIn r i job) odd w)
    | inr (inr even) ↦ now (w.0, w.1, even_wins r.goal r.board n k (2 * n + 1) w.0 even (omega arith) w.2)
  ]

  -- the round that the job wins in
  pub takes_now : (n : ℕ) → ((k : ℕ) → 0 < k → k ≤ 2 * n → WinsIn r k job → ⊥) → WinsIn r (2 * n + 1) job → TakesIn r (2 * n + 1) job
  takes_now n before now = record { some = omega arith; wins = now; fewer = λ k some less. before k some (omega (arith, less)) }

  -- where it wins in none, it takes no number of plies
  pub takes_none : (n limit : ℕ) → limit ≤ 2 * n → ((k : ℕ) → 0 < k → k ≤ 2 * n → WinsIn r k job → ⊥) → (k : ℕ) → k ≤ limit → TakesIn r k job → ⊥
  takes_none n limit all before k within takes = before k takes.some (omega (arith, all, within)) takes.wins

-- ---- the list of keys

abbrev pub Before : Root → Ply → Ply → Type 0
Before r = IsPlyBefore r.board.game

-- the move wins within the limit, in the plies of the key
abbrev pub IsKey : Root → Key → Type 0
IsKey r k = (k.plies ≤ r.limit) × Takes r.goal r.board k.plies k.first

abbrev pub first_of : Key → Ply
first_of k = k.first

-- a move takes one number of plies
one_number : (goal : Goal) (b : PlainBoard) (m : Ply) (n k : ℕ) → Takes goal b n m → Takes goal b k m → n ≡ k
one_number goal b m n k s t = elim (three n k) [
  | inl less ↦ absurd (t.fewer n s.some less s.wins)
  | inr (inl same) ↦ same
  | inr (inr more) ↦ absurd (s.fewer k t.some more t.wins)
]
  where
    three : (i j : ℕ) → (i < j) ⊎ ((i ≡ j) ⊎ (j < i))
    three i j = grind arith

module _ (r : Root) (job : ℕ) (m : Ply) (at : slice_get r.moves.items job ≡ Some m) where
  move_wins : (k : ℕ) → WinsIn r k job → Wins r.goal r.board k m
  move_wins k w = subst (Wins r.goal r.board k) (same_some w.0 m (sym w.1 ∙ at)) w.2

  -- a number of plies that the job takes is one that its move takes
  pub takes_move : (n : ℕ) → TakesIn r n job → Takes r.goal r.board n m
  takes_move n t = record { some = t.some; wins = move_wins n t.wins; fewer = λ k some less w. t.fewer k some less (m, at, w) }

  -- and the other way
  pub takes_job : (n : ℕ) → Takes r.goal r.board n m → TakesIn r n job
  takes_job n t = record { some = t.some; wins = (m, at, t.wins); fewer = λ k some less w. t.fewer k some less (move_wins k w) }

module _ (r : Root) (ks : List Key) (job : ℕ) (below : job < length r.moves.items) (picks : Picks (Before r) first_of (IsKey r) (take job r.moves.items) ks) where
  -- the job is a key
  pub one_key : (m : Ply) (n : ℕ) → IsRoot r → m ≡ get_or r.moves.items job m → InOrder (Before r) first_of (IsKey r) ks → n ≤ r.limit → TakesIn r n job
      → InOrder (Before r) first_of (IsKey r) (ks ++ (record { first = m; plies = n }) ∷ [])
      × Picks (Before r) first_of (IsKey r) (take (job + 1) r.moves.items) (ks ++ (record { first = m; plies = n }) ∷ [])
  one_key m n root is sorted within takes =
      keep (Before r) first_of (IsKey r) r.moves.items ks job (record { first = m; plies = n }) below is root.ordered sorted picks (within, here)
      (λ l same p. λ i. record { first = sym same i; plies = one_number r.goal r.board m n l.plies here (subst (Takes r.goal r.board l.plies) same p.1) i })
    where
      here : Takes r.goal r.board n m
      here = takes_move r job m (slice_get_read r.moves.items (length r.moves.items) job m refl below is) n takes

  -- it is none
  pub no_key : (m : Ply) → m ≡ get_or r.moves.items job m → ((n : ℕ) → n ≤ r.limit → TakesIn r n job → ⊥) → Picks (Before r) first_of (IsKey r) (take (job + 1) r.moves.items) ks
  no_key m is none =
      skip (Before r) first_of (IsKey r) r.moves.items ks job m below is picks
      (λ l same p. none l.plies p.0 (takes_job r job m (slice_get_read r.moves.items (length r.moves.items) job m refl below is) l.plies (subst (Takes r.goal r.board l.plies) same p.1)))

-- after all jobs these are all keys
pub all_keys : (r : Root) (ks : List Key) (jobs : ℕ) → IsRoot r → length r.moves.items ≤ jobs → InOrder (Before r) first_of (IsKey r) ks
    → Picks (Before r) first_of (IsKey r) (take jobs r.moves.items) ks → ListsKeys r.goal r.board r.limit ks
all_keys r ks jobs root all sorted picks = record {
  ordered = sorted;
  exact = λ k. (
    λ c. ((whole k).0 c).1,
    λ p. (whole k).1 ((root.exact k.first).1 (p.1.wins.0, p.1.wins.1), p),
  );
}
  where
    whole : Picks (Before r) first_of (IsKey r) r.moves.items ks
    whole = subst (λ ms. Picks (Before r) first_of (IsKey r) ms ks) (take_all jobs r.moves.items all) picks
