-- The one reply that refutes a move, and the moves that one reply alone refutes.
use Rattle.std.proofs.Common.{◌≡◌, ℕ, ◌+◌, ◌-◌, ◌<◌, ◌≤◌, inl, inr, sym, subst, ◌∙◌, arith, rules, List, [], ◌∷◌, ◌++◌, length, take, get_or, All, map, Contains, Option, Some, None, is_some, true, false, MatchOption}
use Rattle.solutions.proofs.Common.{false≢true, map-append, take_all, All-push, All-nil, common_steps, elements, Game, PlainBoard, Goal, Ply, IsMove, IsLawful, IsPlyBefore, ListsLawful, one_after, Wins, IsMet, Refutes, RefutesAlone, IsTry, ListsTries}
use Rattle.solutions.specs.declared.first_try.Try.{Try}
use Rattle.solutions.proofs.Lists.{PicksMoves, pick_one, pick_skip, pick_all, among_before, among_here, among_cases}
use Rattle.solutions.proofs.Forcing.{met_here, key_meets}

-- no move comes before itself
not_before : (game : Game) (m : Ply) → IsPlyBefore game m m → ⊥
not_before game m before = elim before [
  | inl from ↦ omega (arith, from)
  | inr (inl to) ↦ omega (arith, to.1)
  | inr (inr promotion) ↦ omega (arith, promotion.2)
]

-- ---- the one reply

-- of these replies one alone refutes so far, or none does
abbrev pub RefutesOnce : Goal → PlainBoard → ℕ → List Ply → Option Ply → Type 0
RefutesOnce goal q n xs None = (s : Ply) → Contains xs s → Refutes goal q n s → ⊥
RefutesOnce goal q n xs (Some r) = Contains xs r × Refutes goal q n r × ((s : Ply) → Contains xs s → Refutes goal q n s → s ≡ r)

module _ (goal : Goal) (q : PlainBoard) (n : ℕ) where
  -- a reply that is met doesn't refute
  pub met_not : (r : Ply) → IsMet goal q n r → Refutes goal q n r → ⊥
  met_not r met refutes = refutes.2 (met_here goal q r refutes.0 refutes.1 n met)

  -- a lawful reply that isn't met does
  pub not_met : (r : Ply) → IsLawful q r → (IsMet goal q n r → ⊥) → Refutes goal q n r
  not_met r lawful not = (lawful.0, lawful.1, λ f. not (lawful.0, lawful.1, f))

  module _ (xs : List Ply) (lists : ListsLawful q xs) where
    module _ (i : ℕ) (r : Ply) (within : i < length xs) (is : r ≡ get_or xs i r) where
      pub refute_skip : (found : Option Ply) → IsMet goal q n r → RefutesOnce goal q n (take i xs) found → RefutesOnce goal q n (take (i + 1) xs) found
      refute_skip None met so_far = λ s c refutes. elim (among_cases xs i r within is s c) [
        | inl before ↦ so_far s before refutes
        | inr here ↦ met_not r met (subst (Refutes goal q n) here refutes)
      ]
      refute_skip (Some t) met so_far = (
        among_before xs i r within is t so_far.0,
        so_far.1,
        λ s c refutes. elim (among_cases xs i r within is s c) as (λ _. s ≡ t) [
          | inl before ↦ so_far.2 s before refutes
          | inr here ↦ absurd (met_not r met (subst (Refutes goal q n) here refutes))
        ],
      )

      pub refute_first : (found : Option Ply) → is_some found ≡ false → (IsMet goal q n r → ⊥) → RefutesOnce goal q n (take i xs) found → RefutesOnce goal q n (take (i + 1) xs) (Some r)
      refute_first (Some t) none not so_far = absurd (false≢true (sym none))
      refute_first None none not so_far = (
        among_here xs i r within is,
        not_met r ((lists.exact r).0 (i, within, sym is)) not,
        λ s c refutes. elim (among_cases xs i r within is s c) as (λ _. s ≡ r) [
          | inl before ↦ absurd (so_far s before refutes)
          | inr here ↦ here
        ],
      )

      -- a second one
      pub refute_second : (found : Option Ply) → is_some found ≡ true → (IsMet goal q n r → ⊥) → RefutesOnce goal q n (take i xs) found → (s : Ply) → RefutesAlone goal q n s → ⊥
      refute_second None some not so_far s alone = false≢true some
      refute_second (Some t) some not so_far s alone =
          let here = alone.only r (not_met r ((lists.exact r).0 (i, within, sym is)) not) in
          let there = alone.only t so_far.1 in
          not_before q.game r (earlier (there ∙ sym here) so_far.0)
        where
          earlier : t ≡ r → Contains (take i xs) t → IsPlyBefore q.game r r
          earlier same c =
              let at : get_or xs c.0 r ≡ r = grind (arith, common_steps, elements, within, c.1, c.2, same) in
              let small : c.0 < i = grind (arith, common_steps, elements, within, c.1) in
              subst (λ z. IsPlyBefore q.game z r) at (subst (IsPlyBefore q.game (get_or xs c.0 r)) (sym is) (lists.ordered c.0 i r small within))

    listed : (i : ℕ) → length xs ≤ i → (s : Ply) → Refutes goal q n s → Contains (take i xs) s
    listed i all s refutes = subst (λ ys. Contains ys s) (sym (take_all i xs all)) ((lists.exact s).1 (refutes.0, refutes.1))

    -- after all replies
    pub refute_all : (i : ℕ) → length xs ≤ i → (found : Option Ply) → RefutesOnce goal q n (take i xs) found → MatchOption found ((r : Ply) → RefutesAlone goal q n r → ⊥) (RefutesAlone goal q n)
    refute_all i all None so_far = λ r alone. so_far r (listed i all r alone.refutes) alone.refutes
    refute_all i all (Some t) so_far = record { refutes = so_far.1; only = λ s refutes. so_far.2 s (listed i all s refutes) refutes }

-- ---- the moves

abbrev pub firsts_of : List Try → List Ply
firsts_of tries = map (λ t. t.first) tries

-- the move is a try
abbrev pub IsTried : Goal → PlainBoard → ℕ → Ply → Type 0
IsTried goal b n m = (r : Ply) × IsTry goal b n (record { first = m; refutation = r })

-- of these moves exactly those that are tries, each with its refutation
pub record TriesOver (goal : Goal) (b : PlainBoard) (n : ℕ) (xs : List Ply) (tries : List Try) : Type 0 where
  pub picks : PicksMoves b.game (IsTried goal b n) xs (firsts_of tries)
  pub each : All (IsTry goal b n) tries

-- nothing is among none
not_among : (m : Ply) → Contains [] m → ⊥
not_among m among = omega (arith, among.1)

-- a problem of one move has none
pub no_tries : (goal : Goal) (b : PlainBoard) (n : ℕ) → n < 2 → (tries : List Try) → tries ≡ [] → ListsTries goal b n tries
no_tries goal b n one tries none = subst (ListsTries goal b n) (sym none) (record {
  firsts = record { ordered = search rules; exact = λ m. (λ among. absurd (not_among m among), λ tried. absurd (omega (arith, one, tried.1.several))) };
  each = All-nil (IsTry goal b n);
})

module _ (goal : Goal) (b : PlainBoard) (n : ℕ) (xs : List Ply) where
  module _ (lists : ListsLawful b xs) (tries : List Try) (i : ℕ) (m : Ply) (within : i < length xs) (is : m ≡ get_or xs i m) (q : PlainBoard) (move : IsMove b m q) (so_far : TriesOver goal b n (take i xs) tries) where
    -- one reply alone refutes the move
    pub try_one : 2 ≤ n → (r : Ply) (more : List Try) → more ≡ tries ++ (record { first = m; refutation = r }) ∷ [] → RefutesAlone goal q (n - 2) r → TriesOver goal b n (take (i + 1) xs) more
    try_one several r more pushed alone = subst (TriesOver goal b n (take (i + 1) xs)) (sym pushed) (record {
      picks = subst (PicksMoves b.game (IsTried goal b n) (take (i + 1) xs)) (sym (map-append (λ (t : Try). t.first) tries (tried ∷ [])))
          (pick_one b (IsTried goal b n) xs lists (firsts_of tries) i m within is so_far.picks (r, is_try));
      each = All-push (IsTry goal b n) tries tried so_far.each is_try;
    })
      where
        tried : Try
        tried = record { first = m; refutation = r }

        no_key : Wins goal b n m → ⊥
        no_key wins =
            let refutes = alone.refutes in
            refutes.2 (met_here goal q r refutes.0 refutes.1 (n - 2) (key_meets goal b m q move n wins r (refutes.0, refutes.1)))

        is_try : IsTry goal b n tried
        is_try = record { several = several; after = q; move = move; no_key = no_key; refutation = alone }

    -- none does, or several do
    pub try_skip : ((r : Ply) → RefutesAlone goal q (n - 2) r → ⊥) → TriesOver goal b n (take (i + 1) xs) tries
    try_skip none = record {
      picks = pick_skip b (IsTried goal b n) xs lists (firsts_of tries) i m within is so_far.picks
          (λ tried. none tried.0 (subst (λ (x : PlainBoard). RefutesAlone goal x (n - 2) tried.0) (one_after b m tried.1.after q tried.1.move move) tried.1.refutation));
      each = so_far.each;
    }

  pub try_all : ListsLawful b xs → (tries : List Try) (i : ℕ) → length xs ≤ i → TriesOver goal b n (take i xs) tries → ListsTries goal b n tries
  try_all lists tries i all so_far = record {
    firsts = pick_all b (IsTried goal b n) xs lists (firsts_of tries) i all so_far.picks (λ m tried. (tried.1.after, tried.1.move));
    each = so_far.each;
  }
